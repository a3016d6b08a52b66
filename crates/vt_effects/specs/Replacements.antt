-- Commands that change the object of a pointer or of a list item (docs/PROFILE.md, "Inclusions and chains").
use Rattle.std.specs.Prelude.{◌≡◌, ℕ, Bool, true, false, not, ◌==◌, ◌||◌, if◌then◌else◌, set, slice_get, Option, Some, None}
use Rattle.std.specs.Option.{option_map}
use Rattle.std.specs.FinMap as finite
use Rattle.vt_kinds.specs.declared.slot.Slot.{Slot}
use Rattle.vt_kinds.specs.declared.object.Object.TheVariants as objects
use Rattle.vt_commands.specs.declared.command.Command.{Command}
use Rattle.vt_commands.specs.declared.command.Command.TheVariants.{ChangeNumericValue, ChangeAttribute, ChangeListItem}
use Rattle.vt_kinds.specs.Ids.{null_id}
use Rattle.vt_kinds.specs.Records.{Seen}
use Rattle.vt_stores.specs.Stores.{ObjectMap}
use Rattle.vt_effects.specs.declared.pointers.Pointed.{Pointed}
use Rattle.vt_effects.specs.declared.replacements.Replacement.{Replacement}
use Rattle.vt_effects.specs.Changes.{is_one_of}
use Rattle.vt_effects.specs.Fields.{low_word}
use Rattle.vt_effects.specs.Effects.{kind_in, pointer_value, places_allow, value_drawn}

-- the item at an index of a list; None for other objects
abbrev pub item_at : ℕ → Option Seen → Option ℕ
item_at index (Some (objects.InputList o)) = slice_get o.items index
item_at index _ = None

abbrev pub replacement : ℕ → ℕ → ℕ → Replacement
replacement holder after before = record { holder = holder; before = before; after = after }

-- the replacement that a command makes, if it makes one
abbrev pub replacement_by : ObjectMap → Command → Option Replacement
replacement_by store (ChangeNumericValue id value) = option_map (replacement id (low_word value)) (pointer_value (finite.get store id))
replacement_by store (ChangeAttribute id number value) = option_map (replacement id (low_word value)) (pointer_value (finite.get store id))
replacement_by store (ChangeListItem id index item) = option_map (replacement id item) (item_at index (finite.get store id))
replacement_by store command = None

-- the new ID fits: a pointer's value in all references to the pointer, and an item's pointer value in the list
abbrev pub new_id_fits : ObjectMap → Command → Bool
new_id_fits store (ChangeNumericValue id value) = places_allow store id (low_word value)
new_id_fits store (ChangeAttribute id number value) = places_allow store id (low_word value)
new_id_fits store (ChangeListItem id index item) = value_drawn store (pointer_value (finite.get store item))
new_id_fits store command = true

-- a slot allows a pointer's value, if the slot refers to the pointer
abbrev pub slot_allows : Pointed → Slot → Bool
slot_allows p slot = not (slot.id == p.pointer) || (if p.value == null_id then true else is_one_of slot.kinds p.kind)

-- the pointer's present value has the kind of the new one
pub record IsOfThatKind (store : ObjectMap) (p : Pointed) : Type 0 where
  pub value : ℕ
  pub held : pointer_value (finite.get store p.pointer) ≡ Some value
  pub there : (value == null_id) ≡ false
  pub same : kind_in store value ≡ p.kind

-- an object with its replaced ID restored
abbrev pub restored : Command → ℕ → Seen → Seen
restored (ChangeListItem id index item) before (objects.InputList o) = objects.InputList (record o { items = set o.items index before })
restored command before (objects.ObjectPointer o) = objects.ObjectPointer (record o { value = before })
restored command before o = o
