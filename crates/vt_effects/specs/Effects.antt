-- The effect of each command on a store: the changed store, or the error byte with the bit of the first test that fails
-- (docs/PROFILE.md, "Commands: form, tests, error byte and events" and the section of each command). A refused command
-- changes nothing.
use Rattle.std.specs.Prelude.{ℕ, zero, suc, nat_le, Bool, true, ◌==◌, ◌&&◌, ◌||◌, not, if◌then◌else◌, List, length, Option, Some, None, Result, Ok, Err}
use Rattle.std.specs.Option.{option_map}
use Rattle.std.specs.List.{list_all, flat_map}
use Rattle.std.specs.FinMap as finite
use Rattle.vt_kinds.specs.declared.kind.Kind.{Kind}
use Rattle.vt_kinds.specs.declared.kinds.Kinds.TheVariants as sets
use Rattle.vt_kinds.specs.declared.slot.Slot.{Slot}
use Rattle.vt_kinds.specs.declared.object.Object.TheVariants as objects
use Rattle.vt_commands.specs.declared.command.Command.{Command}
use Rattle.vt_commands.specs.declared.command.Command.TheVariants.{HideShow, EnableDisable, SetVolume, ChangeNumericValue, ChangeAttribute, ChangeListItem, ChangeStringValue}
use Rattle.vt_kinds.specs.Ids.{null_id}
use Rattle.vt_kinds.specs.Records.{Seen, kind_of}
use Rattle.vt_kinds.specs.References.{slots_of}
use Rattle.vt_stores.specs.Stores.{ObjectMap}
use Rattle.vt_commands.specs.Targets.{object_of}
use Rattle.vt_chains.specs.Depths.{ids_of, inclusions_of}
use Rattle.vt_chains.specs.Limits.{terminal}
use Rattle.vt_effects.specs.Errors as errors
use Rattle.vt_effects.specs.Fields.{low_word}
use Rattle.vt_effects.specs.Changes.{if_passed, is_one_of, other_id, changed, left}

-- ---- the object of a command

-- the error byte for a missing object
abbrev pub missing_error : Command → ℕ
missing_error (HideShow id state) = errors.OBJECT_ID
missing_error (EnableDisable id state) = errors.OBJECT_ID
missing_error (ChangeStringValue id count text) = errors.OBJECT_ID
missing_error _ = errors.OBJECT

abbrev pub insert_ok : ObjectMap → ℕ → Result Seen ℕ → Result ObjectMap ℕ
insert_ok store id (Ok o) = Ok (finite.insert store id o)
insert_ok store id (Err error) = Err error

abbrev pub changed_at : ObjectMap → ℕ → Command → Option Kind → Option Seen → Result ObjectMap ℕ
changed_at store id command kind_of_other None = Err (missing_error command)
changed_at store id command kind_of_other (Some o) = insert_ok store id (changed command kind_of_other o)

-- the store after a command has changed the object of an ID, where `kind_of_other` is the kind of the other object
abbrev pub changed_in : ObjectMap → ℕ → Command → Option Kind → Result ObjectMap ℕ
changed_in store id command kind_of_other = changed_at store id command kind_of_other (finite.get store id)

-- a command without an object changes nothing: the terminal's sounds are not in its store
abbrev pub without_object : ObjectMap → Command → Result ObjectMap ℕ
without_object store (SetVolume volume) = if_passed (nat_le volume 100) errors.OTHER store
without_object store command = Ok store

abbrev pub changed_for : ObjectMap → Command → Option Kind → Option ℕ → Result ObjectMap ℕ
changed_for store command kind_of_other None = without_object store command
changed_for store command kind_of_other (Some id) = changed_in store id command kind_of_other

-- The store after a command, without the extra checks for pointer values and list items.
abbrev pub changed_by : ObjectMap → Command → Option Kind → Result ObjectMap ℕ
changed_by store command kind_of_other = changed_for store command kind_of_other (object_of command)

-- ---- the values of pointers, and chains

-- the kind of an object, or None if it is missing
abbrev pub kind_in : ObjectMap → ℕ → Option Kind
kind_in store id = option_map kind_of (finite.get store id)

-- the value of a pointer, or None for other objects
abbrev pub pointer_value : Option Seen → Option ℕ
pointer_value (Some (objects.ObjectPointer o)) = Some o.value
pointer_value _ = None

-- whether a slot allows an ID: NULL, or an object of an allowed kind
abbrev pub allows : ObjectMap → Slot → ℕ → Bool
allows store slot id = if id == null_id then true else is_one_of slot.kinds (kind_in store id)

-- all slots, by rising ID
abbrev pub all_slots : ObjectMap → List Slot
all_slots store = flat_map (λ e. slots_of e.1) (finite.entries store)

-- whether all references to a pointer allow a value
abbrev pub places_allow : ObjectMap → ℕ → ℕ → Bool
places_allow store pointer value = list_all (λ slot. not (slot.id == pointer) || allows store slot value) (all_slots store)

-- whether a pointer's value may be drawn as an item; true if the item is not a pointer
abbrev pub value_drawn : ObjectMap → Option ℕ → Bool
value_drawn store None = true
value_drawn store (Some value) = if value == null_id then true else is_one_of sets.Drawn (kind_in store value)

-- no chain from an ID has more than `most` inclusions
unfoldable pub is_short : ℕ → (ℕ → List ℕ) → ℕ → Bool
is_short zero included id = length (included id) == 0
is_short (suc most) included id = list_all (is_short most included) (included id)

-- no chain has more inclusions than the terminal allows
abbrev pub chains_are_short : ObjectMap → Bool
chains_are_short store = list_all (is_short terminal.inclusions (inclusions_of store)) (ids_of store)

-- whether a pointer may have a value
abbrev pub pointer_may : ObjectMap → ℕ → ℕ → Option ℕ → ObjectMap → Bool
pointer_may store id value None new = true
pointer_may store id value (Some before) new = places_allow store id value && chains_are_short new

-- The store stays in order with the new value of a pointer or the new item of a list. Other changes cannot break the
-- order.
abbrev pub keeps_order : ObjectMap → Command → ObjectMap → Bool
keeps_order store (ChangeListItem list index item) new = value_drawn store (pointer_value (finite.get store item)) && chains_are_short new
keeps_order store (ChangeNumericValue id value) new = pointer_may store id (low_word value) (pointer_value (finite.get store id)) new
keeps_order store (ChangeAttribute id number value) new = pointer_may store id (low_word value) (pointer_value (finite.get store id)) new
keeps_order store command new = true

-- ---- the effect of a command

-- the error byte for a value that breaks the order
abbrev pub value_error : Command → ℕ
value_error (ChangeNumericValue id value) = errors.VALUE
value_error _ = errors.ITEM

abbrev pub in_order : ObjectMap → Command → Result ObjectMap ℕ → Result ObjectMap ℕ
in_order store command (Err error) = Err error
in_order store command (Ok new) = if_passed (keeps_order store command new) (value_error command) new

-- the kind of the other object of a command
abbrev pub other_kind : ObjectMap → Option ℕ → Option Kind
other_kind store None = None
other_kind store (Some id) = kind_in store id

abbrev pub effect_on : ObjectMap → Command → Option ℕ → Result ObjectMap ℕ
effect_on store command None = without_object store command
effect_on store command (Some id) = in_order store command (changed_in store id command (other_kind store (other_id command)))

unfoldable pub effect : ObjectMap → Command → Result ObjectMap ℕ
effect store command = effect_on store command (object_of command)

abbrev pub after : ObjectMap → Command → ObjectMap
after store command = left store (effect store command)
