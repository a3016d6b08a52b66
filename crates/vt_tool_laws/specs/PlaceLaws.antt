-- Where findings point: to a position in an object, and to the bytes of a record (docs/PROFILE.md, "Pools and faults", "Verification of
-- a pool").
use Rattle.std.specs.Prelude.{◌≡◌, ◌⊎◌, ◌≤◌, ◌<◌, ℕ, ◌+◌, Bool, true, List, ◌++◌, length, Contains, Some, slice_get, slice_index}
use Rattle.vt_kinds.specs.declared.entries.MacroEntry.{MacroEntry}
use Rattle.vt_kinds.specs.declared.slot.Slot.{Slot}
use Rattle.vt_kinds.specs.Records.{Seen, kind_of, record_of}
use Rattle.vt_kinds.specs.References.{slots_of}
use Rattle.vt_stores.specs.Shapes.{Fixed, shape_of, macro_bytes}
use Rattle.vt_stores.specs.Stores.{Objects, object_at}
use Rattle.vt_commands.specs.declared.command.Command.{Command}
use Rattle.vt_commands.specs.declared.command.Command.TheVariants.{ChangeAttribute}
use Rattle.vt_commands.specs.Pieces.{IsPiece}
use Rattle.vt_records.specs.declared.fault.PoolFault.TheVariants as faults
use Rattle.vt_verify.specs.declared.reference.Reference.{Reference}
use Rattle.vt_verify.specs.Macros.{is_macro, macro_command}
use Rattle.vt_verify.specs.References.{of_slot, pointed}
use Rattle.vt_verify.specs.Targets.{macro_reference, target_references}
use Rattle.check_reading.specs.declared.pool_reading.ObjectRecord.{ObjectRecord}
use Rattle.check_inspect.specs.declared.finding.Finding.{Finding}
use Rattle.check_inspect.specs.declared.finding.Finding.TheVariants as findings
use Rattle.check_inspect.specs.declared.finding.FindingPlace.TheVariants as places
use Rattle.check_inspect.specs.declared.finding.Spot.{Spot}
use Rattle.check_inspect.specs.declared.finding.Spot.TheVariants as spots
use Rattle.check_inspect.specs.declared.inspection.Inspection.{Inspection}
use Rattle.check_inspect.specs.declared.inspection.Note.{Note}
use Rattle.check_inspect.specs.Findings.{AreFindings}
use Rattle.check_inspect.specs.Inspections.{IsInspection}
use Rattle.check_inspect.specs.Places.{IsRecordOf, IsOffset}

-- bytes stand in others from an index on
pub record StandsAt (part whole : List ℕ) (at : ℕ) : Type 0 where
  pub front : List ℕ
  pub back : List ℕ
  pub joined : whole ≡ front ++ (part ++ back)
  pub before : length front ≡ at

-- ---- the position in an object

-- The bytes of a whole command stand in a macro's bytes from an offset on, and the first of them is the function.
pub record IsCommandAt (objects : Objects) (id at function : ℕ) (command : List ℕ) : Type 0 where
  pub object : Fixed
  pub there : Contains (shape_of objects) (id, object)
  pub macro : is_macro object.kind ≡ true
  pub whole : IsPiece command
  pub stands : StandsAt command object.bytes at
  pub first : function ≡ slice_index command 0

-- a slot of the object in a place
pub record IsSlotIn (objects : Objects) (id : ℕ) (slot : Slot) : Type 0 where
  pub object : Seen
  pub there : Contains objects (id, object)
  pub slot_of : Contains (slots_of object) slot

-- The reference is what the object has at the position: the ID in the slot of the place; the value of the pointer whose ID is in it; the
-- macro of the entry with that index, which is for the event; or an ID in the command whose bytes begin at the offset.
abbrev pub IsAtSpot : Objects → Reference → Spot → Type 0
IsAtSpot objects r (spots.Slot place) =
    (slot : Slot) × IsSlotIn objects r.parent slot × (slot.place ≡ place) × (r ≡ of_slot r.parent slot)
IsAtSpot objects r (spots.Through place pointer) =
    (slot : Slot) × IsSlotIn objects r.parent slot × (slot.place ≡ place) × (slot.id ≡ pointer)
    × Contains (pointed (of_slot r.parent slot) (object_at objects pointer)) r
IsAtSpot objects r (spots.Entry index event) =
    (object : Fixed) × (entry : MacroEntry) × Contains (shape_of objects) (r.parent, object) × (slice_get object.macros index ≡ Some entry)
    × (entry.event ≡ event) × (r ≡ macro_reference r.parent entry.macro_id)
IsAtSpot objects r (spots.Command at function) =
    (bytes : List ℕ) × (command : Command) × IsCommandAt objects r.parent at function bytes × (macro_command bytes ≡ Some command)
    × Contains (target_references (shape_of objects) r.parent command) r

-- A finding that names a position has there what it speaks of.
abbrev pub IsInPlace : Objects → Finding → Type 0
IsInPlace objects (findings.Record fault) = Unit {0}
IsInPlace objects findings.NoWorkingSet = Unit {0}
IsInPlace objects (findings.TwoWorkingSets id) = Unit {0}
IsInPlace objects (findings.Missing r) = IsAtSpot objects r.reference r.spot
IsInPlace objects (findings.WrongKind r) = IsAtSpot objects r.reference r.spot
IsInPlace objects (findings.TooDeep chain) = Unit {0}
IsInPlace objects (findings.MacroBytes id) = Unit {0}
IsInPlace objects (findings.MacroCommand id at function) = (bytes : List ℕ) × IsCommandAt objects id at function bytes
IsInPlace objects (findings.MacroMissing r) = IsAtSpot objects r.reference r.spot
IsInPlace objects (findings.MacroKind r) = IsAtSpot objects r.reference r.spot
IsInPlace objects (findings.MacroValue id at object attribute) =
    (bytes : List ℕ) × (function value : ℕ) × IsCommandAt objects id at function bytes × (macro_command bytes ≡ Some (ChangeAttribute object attribute value))
IsInPlace objects (findings.MacroCircle path) = Unit {0}
IsInPlace objects (findings.OverBudget id event) = Unit {0}

-- Every finding of a rule is in its place.
abbrev pub FindingsAreInPlace : Type 0
FindingsAreInPlace = (are_all : Bool) (objects : Objects) (found : List Finding) (left_out : List Note) → AreFindings are_all objects found left_out
    → (finding : Finding) → Contains found finding → IsInPlace objects finding

-- ---- the place in the pool's bytes

-- an index in a field that a finding calls wrong: the four bytes of a scale, or the byte of the decimals
abbrev pub IsInWrongField : List Finding → ℕ → Type 0
IsInWrongField found k =
    ((at : ℕ) × Contains found (findings.Record (faults.Scale at)) × (at ≤ k) × (k < at + 4)) ⊎ Contains found (findings.Record (faults.Decimals k))

-- bytes as many as those of the pool, and others only in fields that findings call wrong
pub record AreMended (bytes mended : List ℕ) (found : List Finding) : Type 0 where
  pub long : length mended ≡ length bytes
  pub same : (k : ℕ) → k < length bytes → (slice_index mended k ≡ slice_index bytes k) ⊎ IsInWrongField found k

-- The bytes of a pool with proper fields in place of the wrong ones have each object's record where it is said to be, and the bytes of a
-- macro where its commands are.
pub record StandInBytes (bytes : List ℕ) (i : Inspection) : Type 0 where
  pub mended : List ℕ
  pub are_mended : AreMended bytes mended i.findings.items
  pub records : (id : ℕ) (o : Seen) (r : ObjectRecord) → object_at i.objects id ≡ Some o → IsRecordOf i id r → StandsAt (record_of id o) mended r.at
  pub macros : (id : ℕ) (o : Seen) (at : ℕ) → object_at i.objects id ≡ Some o → is_macro (kind_of o) ≡ true
      → IsOffset i (Some (places.Command id 0)) at → StandsAt (macro_bytes o) mended at

-- The records of an inspection are those in the pool's bytes.
abbrev pub RecordsAreInPlace : Type 0
RecordsAreInPlace = (bytes : List ℕ) (i : Inspection) → IsInspection bytes i → StandInBytes bytes i
