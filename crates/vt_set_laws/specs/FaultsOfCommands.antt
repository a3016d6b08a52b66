-- The fault of a macro's command, and the refusal of that command (docs/PROFILE.md, "Commands in macros", "Commands: form, tests,
-- error byte and events").
use Rattle.std.specs.Prelude.{◌≡◌, ◌++◌, Contains, IsTrue, ℕ, Bool, true, false, if◌then◌else◌, List, [], ◌∷◌, map, Option, Some, None, is_some, Ok, Err}
use Rattle.std.specs.FinMap as finite
use Rattle.vt_kinds.specs.declared.fields.Attribute.{Attribute}
use Rattle.vt_kinds.specs.declared.fields.ValueType.{ValueType}
use Rattle.vt_kinds.specs.declared.fields.ValueType.TheVariants as types
use Rattle.vt_kinds.specs.declared.object.Object.TheVariants as objects
use Rattle.vt_kinds.specs.Attributes.{attribute_at}
use Rattle.vt_kinds.specs.Ids.{null_id}
use Rattle.vt_kinds.specs.Records.{Seen, kind_of}
use Rattle.vt_stores.specs.Stores.{ObjectMap}
use Rattle.vt_commands.specs.declared.command.Command.{Command}
use Rattle.vt_commands.specs.declared.command.Command.TheVariants.{ChangeChildLocation, ChangeNumericValue, ChangeFillAttributes, ChangeAttribute, ChangeListItem, ChangeChildPosition, ExecuteMacro}
use Rattle.vt_commands.specs.declared.target.Target.{Target}
use Rattle.vt_commands.specs.Targets.{object_of, targets}
use Rattle.vt_effects.specs.Errors as errors
use Rattle.vt_effects.specs.Changes.{other_id}
use Rattle.vt_effects.specs.Effects.{effect, changed_by, keeps_order, missing_error, other_kind}
use Rattle.vt_effects.specs.Soundness.{IsSound, shape_in}
use Rattle.vt_macros.specs.Machines.{Stuck, fault}
use Rattle.vt_set_laws.specs.CommandKinds.{kind_error, has_other_cause}

-- ---- the second ID of a command

-- whether the values of a type are IDs
abbrev pub is_id : ValueType → Bool
is_id (types.Reference place) = true
is_id type = false

-- whether an attribute is a reference
abbrev pub is_reference : Option Attribute → Bool
is_reference None = false
is_reference (Some attribute) = is_id attribute.value_type

-- Whether a command has a second ID when it changes an object. The value of Change Numeric Value is an ID for a pointer alone, and
-- that of Change Attribute for an attribute that is a reference.
abbrev pub has_other : Command → Seen → Bool
has_other (ChangeNumericValue id value) (objects.ObjectPointer o) = true
has_other (ChangeNumericValue id value) _ = false
has_other (ChangeAttribute id number value) o = is_reference (attribute_at (kind_of o) number)
has_other command o = is_some (other_id command)

-- the error byte for the second ID
abbrev pub other_error : Command → ℕ
other_error (ChangeChildLocation parent child dx dy) = errors.CHILD
other_error (ChangeChildPosition parent child x y) = errors.CHILD
other_error (ChangeFillAttributes id type colour pattern) = errors.PATTERN
other_error (ChangeAttribute id number value) = errors.ATTRIBUTE_VALUE
other_error (ChangeListItem id index item) = errors.ITEM
other_error _ = errors.VALUE

-- the error bytes of a command for its IDs, when its object is there: the kind of the object, the second ID, and the number of a macro
abbrev pub id_errors : Command → Seen → List ℕ
id_errors (ExecuteMacro id) o = kind_error (ExecuteMacro id) ∷ errors.MACRO_ID ∷ []
id_errors command o = kind_error command ∷ (if has_other command o then other_error command ∷ [] else [])

-- the error byte of a test that comes before that of the second ID: the index of Change List Item
abbrev pub earlier_errors : Command → List ℕ
earlier_errors (ChangeListItem id index item) = errors.INDEX ∷ []
earlier_errors _ = []

-- ---- the law

-- Another cause of such an error byte: the child is not in its parent, the type is not that of the mask, or the new value of a pointer
-- or item of a list breaks the order of the store.
pub data HasOtherCause (store : ObjectMap) (command : Command) (o : Seen) : Type 0 where
  object : IsTrue (has_other_cause command o) → HasOtherCause store command o
  order : {new : ObjectMap} → changed_by store command (other_kind store (other_id command)) ≡ Ok new
      → keeps_order store command new ≡ false
      → HasOtherCause store command o

-- The object of a command is there, and an error byte for an ID has another cause.
pub record HasNoFault (store : ObjectMap) (command : Command) (id error : ℕ) : Type 0 where
  pub object : Seen
  pub is_there : finite.get store id ≡ Some object
  pub cause : Contains (id_errors command object) error → HasOtherCause store command object

-- An error byte is for an ID of a command, or of a test before that of the ID.
pub data IsForId (store : ObjectMap) (command : Command) : ℕ → Type 0 where
  missing : {id : ℕ} → object_of command ≡ Some id → finite.get store id ≡ None → IsForId store command (missing_error command)
  wrong : {id error : ℕ} {o : Seen} → object_of command ≡ Some id → finite.get store id ≡ Some o
      → Contains (id_errors command o ++ earlier_errors command) error → IsForId store command error

-- a command is refused for one of its IDs, or before it comes to it
pub record IsRefused (store : ObjectMap) (command : Command) : Type 0 where
  pub error : ℕ
  pub refused : effect store command ≡ Err error
  pub for_id : IsForId store command error

-- the IDs of a command's targets after the first
abbrev pub later_ids : List Target → List ℕ
later_ids [] = []
later_ids (t ∷ ts) = map (λ later. later.id) ts

-- the second ID of a command, if it has one
abbrev pub second_ids : Bool → Option ℕ → List ℕ
second_ids true (Some id) = id ∷ []
second_ids _ _ = []

-- In a store in order, a command is refused for its IDs exactly if it has a fault. The targets of a command are its object and its
-- second ID.
pub record FaultsAreRefusals : Type 0 where
  pub done : (store new : ObjectMap) (command : Command) → IsSound store → finite.get store null_id ≡ None
      → effect store command ≡ Ok new → fault (shape_in store) command ≡ None
  pub faultless : (store : ObjectMap) (command : Command) (id error : ℕ) → IsSound store → finite.get store null_id ≡ None
      → object_of command ≡ Some id → fault (shape_in store) command ≡ None → effect store command ≡ Err error
      → HasNoFault store command id error
  pub faulty : (store : ObjectMap) (command : Command) (why : Stuck) → IsSound store → finite.get store null_id ≡ None
      → fault (shape_in store) command ≡ Some why → IsRefused store command
  pub others : (command : Command) (o : Seen)
      → later_ids (targets (Some (kind_of o)) command) ≡ second_ids (has_other command o) (other_id command)
