-- The messages of items.
use Rattle.std.specs.Prelude.{◌≡◌, ◌≤◌, ℕ, Option, None, length, IsSome}
use Rattle.check_text.specs.declared.item.Item.{Item}
use Rattle.check_text.specs.declared.item.Item.TheVariants as items
use Rattle.check_text.specs.declared.message.ItemLine.{ItemLine}
use Rattle.check_text.specs.declared.checked_pool.CheckedPool.{CheckedPool}
use Rattle.check_text.specs.Codes.{texts, code_of}
use Rattle.check_text.specs.Severities.{severity_of}
use Rattle.check_inspect.specs.declared.finding.FindingPlace.{FindingPlace}
use Rattle.check_inspect.specs.declared.inspection.Inspection.{Inspection}
use Rattle.check_inspect.specs.declared.inspection.Note.{Note}
use Rattle.check_inspect.specs.declared.inspection.Note.TheVariants as notes
use Rattle.check_inspect.specs.Places.{place_of, IsRecordOf, IsOffset, HasOffset}
use Rattle.check_needs.specs.declared.warning.Warning.{Warning}
use Rattle.check_needs.specs.declared.warning.Warning.TheVariants as warnings
use Rattle.check_values.specs.Subjects as values
use Rattle.check_reading.specs.declared.pool_reading.ObjectRecord.{ObjectRecord}
use Rattle.vt_stores.specs.Stores.{object_at}

-- the object that a warning is about
abbrev pub object_of : Warning → ℕ
object_of (warnings.Unused id) = id
object_of (warnings.TextTooWide field) = field.id
object_of (warnings.TextTooHigh field) = field.id
object_of (warnings.Outside element area) = element.parent
object_of (warnings.ExtraKeys id keys most) = id

-- where the unread bytes begin; 0 for the whole pool
abbrev pub note_offset : Note → ℕ
note_offset (notes.Unread at) = at
note_offset notes.UnknownTriggers = 0
note_offset notes.UnknownCosts = 0
note_offset notes.PassedOver = 0

-- the first byte of the record of an object
pub record IsRecordAt (i : Inspection) (id at : ℕ) : Type 0 where
  pub r : ObjectRecord
  pub of : IsRecordOf i id r
  pub at_is : at ≡ r.at

-- the first byte at a place; 0 for the whole pool
pub record IsFirstByte (i : Inspection) (place : Option FindingPlace) (at : ℕ) : Type 0 where
  pub whole : place ≡ None → at ≡ 0
  pub placed : length i.objects ≤ length i.records.items → HasOffset i place → IsOffset i place at

-- The index of the byte that an item is about. Each object has a record in an inspection.
abbrev pub IsItemOffset : Inspection → Item → ℕ → Type 0
IsItemOffset i (items.Finding finding) at = IsFirstByte i (place_of finding.now) at
IsItemOffset i (items.Clash replaced) at = at ≡ replaced.now.at
IsItemOffset i (items.Replaced replaced) at = at ≡ replaced.now.at
IsItemOffset i (items.Warning warning) at =
    length i.objects ≤ length i.records.items → IsSome (object_at i.objects (object_of warning.now)) → IsRecordAt i (object_of warning.now) at
IsItemOffset i (items.Value warning) at =
    length i.objects ≤ length i.records.items → IsSome (object_at i.objects (values.object_of warning.now)) → IsRecordAt i (values.object_of warning.now) at
IsItemOffset i (items.Note note) at = at ≡ note_offset note

-- The message has the file, the severity, the code and the offset of its item.
pub record IsMessage (source : CheckedPool) (item : Item) (m : ItemLine) : Type 0 where
  pub file : m.file.now ≡ source.path.now
  pub severity : m.severity ≡ severity_of item
  pub code : texts m.code ≡ code_of item
  pub offset : IsItemOffset source.inspection.now item m.offset
