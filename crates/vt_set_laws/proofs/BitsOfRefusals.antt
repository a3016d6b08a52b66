-- The error byte of a refused command has one bit, which the row of the command has.
use Rattle.std.proofs.Common.{◌≡◌, ℕ, Bool, true, false, cond, ◌==◌, eqb, nat_lt, List, length, Option, Some, None, Result, Ok, Err, refl, subst}
use Rattle.std.proofs.lemmas.Bool.{eqb-true}
use Rattle.std.proofs.lemmas.Map.Views.{Contains-from_any}
use Rattle.std.specs.List.{list_any}
use Rattle.std.specs.FinMap as finite
use Rattle.vt_kinds.specs.declared.kind.Kind.{Kind}
use Rattle.vt_kinds.specs.declared.kinds.Kinds.TheVariants as sets
use Rattle.vt_kinds.specs.declared.entries.Child.{Child}
use Rattle.vt_kinds.specs.declared.fields.Attribute.{Attribute}
use Rattle.vt_kinds.specs.declared.object.Object.TheVariants as objects
use Rattle.vt_kinds.specs.Records.{Seen, kind_of}
use Rattle.vt_kinds.specs.References.{is_member}
use Rattle.vt_kinds.specs.Attributes.{attribute_at}
use Rattle.vt_stores.specs.Stores.{ObjectMap}
use Rattle.vt_commands.specs.declared.command.Command.{Command}
use Rattle.vt_commands.specs.declared.command.Command.TheVariants.{HideShow, EnableDisable, ControlAudio, SetVolume, ChangeChildLocation, ChangeSize, ChangeBackgroundColour, ChangeNumericValue, ChangeEndPoint, ChangeFontAttributes, ChangeLineAttributes, ChangeFillAttributes, ChangeActiveMask, ChangeSoftKeyMask, ChangeAttribute, ChangePriority, ChangeListItem, DeletePool, ChangeStringValue, ChangeChildPosition, ExecuteMacro}
use Rattle.vt_commands.specs.Commands.{Columns, columns_at, function_of}
use Rattle.vt_commands.specs.Targets.{object_of}
use Rattle.vt_effects.specs.Errors.{bit}
use Rattle.vt_effects.specs.Changes.{if_passed, stands_in, for_child, put_children, in_parent, put_attribute, other_id, changed}
use Rattle.vt_effects.specs.Effects.{missing_error, insert_ok, changed_at, without_object, keeps_order, value_error, in_order, other_kind, effect_on, effect}
use Rattle.vt_set_laws.specs.RefusalBits.{HasBit, has, RefusalsAreInTheirRows}

-- the columns of a command
abbrev row_of : Command → Option Columns
row_of command = columns_at (function_of command)

-- a result is no error, or an error of one bit, which the columns have
abbrev IsAnswered : {A : Type 0} → Option Columns → Result A ℕ → Type 0
IsAnswered row (Ok x) = Unit {0}
IsAnswered row (Err error) = HasBit row error

-- a bit that is found among those of the columns
in_row : (row : Columns) (n : ℕ) → list_any (eqb n) row.bits ≡ true → HasBit (Some row) (bit n)
in_row row n is = has (Contains-from_any eqb-true n row.bits is)

-- a test before others
either : {A : Type 0} (row : Option Columns) (test : Bool) (made : Result A ℕ) (error : ℕ) → IsAnswered row made → HasBit row error
    → IsAnswered row (cond {A = Result A ℕ} test made (Err error))
either row true made error passed failed = passed
either row false made error passed failed = failed

-- a last test
tested : {A : Type 0} (row : Option Columns) (test : Bool) (error : ℕ) (x : A) → HasBit row error → IsAnswered row (if_passed test error x)
tested row test error x failed = either row test (Ok x) error tt failed

-- ---- the children of a parent

-- a parent with changed children
put : (row : Option Columns) (parent : List Child → Seen) (made : Result (List Child) ℕ) → IsAnswered row made → IsAnswered row (put_children parent made)
put row parent (Ok children) is = tt
put row parent (Err error) is = is

-- a parent, or an object of another kind
parents : (row : Option Columns) (change : List Child → Result (List Child) ℕ) (o : Seen) → HasBit row (bit 0)
    → ((children : List Child) → IsAnswered row (change children)) → IsAnswered row (in_parent change o)
parents row change (objects.WorkingSet o) kind is = put row _ (change o.children) (is o.children)
parents row change (objects.DataMask o) kind is = put row _ (change o.children) (is o.children)
parents row change (objects.AlarmMask o) kind is = put row _ (change o.children) (is o.children)
parents row change (objects.Container o) kind is = put row _ (change o.children) (is o.children)
parents row change (objects.Key o) kind is = put row _ (change o.children) (is o.children)
parents row change (objects.Button o) kind is = put row _ (change o.children) (is o.children)
parents row change o kind is = kind

-- a child that has to exist and to be in its parent
moved : (row : Option Columns) (child : ℕ) (other : Option Kind) (children : List Child) (made : Result (List Child) ℕ) → HasBit row (bit 0) → HasBit row (bit 1)
    → IsAnswered row made → IsAnswered row (for_child child other children made)
moved row child None children made parent missing is = missing
moved row child (Some kind) children made parent missing is = either row (stands_in child children) made (bit 0) is parent

-- ---- the change of each command

-- an attribute that has to exist and to take its value
attribute : (row : Option Columns) (found : Option Attribute) (other : Option Kind) (value : ℕ) (o : Seen) → HasBit row (bit 1) → HasBit row (bit 2)
    → IsAnswered row (put_attribute found other value o)
attribute row None other value o none never = none
attribute row (Some found) other value o none never = tested row _ (bit 2) _ never

-- the tests of the object and of the command's values, in which a command without an object is done
changes : (command : Command) (other : Option Kind) (o : Seen) → IsAnswered (row_of command) (changed command other o)
changes (HideShow id state) other (objects.Container o) = tested _ _ _ _ (in_row _ 2 refl)
changes (HideShow id state) other o = in_row _ 1 refl
changes (EnableDisable id state) other (objects.InputBoolean o) = tested _ _ _ _ (in_row _ 2 refl)
changes (EnableDisable id state) other (objects.InputString o) = tested _ _ _ _ (in_row _ 2 refl)
changes (EnableDisable id state) other (objects.InputNumber o) = tested _ _ _ _ (in_row _ 2 refl)
changes (EnableDisable id state) other (objects.InputList o) = tested _ _ _ _ (in_row _ 2 refl)
changes (EnableDisable id state) other o = in_row _ 1 refl
changes (ChangeChildLocation parent child dx dy) other o =
    parents _ _ o (in_row _ 0 refl) (λ children. moved _ child other children _ (in_row _ 0 refl) (in_row _ 1 refl) (tested _ _ _ _ (in_row _ 4 refl)))
changes (ChangeSize id width height) other o = tested _ _ _ _ (in_row _ 0 refl)
changes (ChangeBackgroundColour id colour) other o = tested _ _ _ _ (in_row _ 0 refl)
changes (ChangeNumericValue id value) other (objects.InputBoolean o) = tested _ _ _ _ (in_row _ 1 refl)
changes (ChangeNumericValue id value) other (objects.InputNumber o) = tested _ _ _ _ (in_row _ 1 refl)
changes (ChangeNumericValue id value) other (objects.InputList o) = tested _ _ _ _ (in_row _ 1 refl)
changes (ChangeNumericValue id value) other (objects.OutputNumber o) = tt
changes (ChangeNumericValue id value) other (objects.Meter o) = tt
changes (ChangeNumericValue id value) other (objects.LinearBar o) = tt
changes (ChangeNumericValue id value) other (objects.ArchedBar o) = tt
changes (ChangeNumericValue id value) other (objects.NumberVariable o) = tt
changes (ChangeNumericValue id value) other (objects.ObjectPointer o) = tested _ _ _ _ (in_row _ 1 refl)
changes (ChangeNumericValue id value) other o = in_row _ 0 refl
changes (ChangeEndPoint id width height direction) other o = either _ (is_member sets.Lines (kind_of o)) _ _ (tested _ _ _ _ (in_row _ 1 refl)) (in_row _ 0 refl)
changes (ChangeFontAttributes id colour size type style) other o = tested _ _ _ _ (in_row _ 0 refl)
changes (ChangeLineAttributes id colour width art) other o = tested _ _ _ _ (in_row _ 0 refl)
changes (ChangeFillAttributes id type colour pattern) other (objects.FillAttributes o) = tested _ _ _ _ (in_row _ 3 refl)
changes (ChangeFillAttributes id type colour pattern) other o = in_row _ 0 refl
changes (ChangeActiveMask set mask) other (objects.WorkingSet o) = tested _ _ _ _ (in_row _ 1 refl)
changes (ChangeActiveMask set mask) other o = in_row _ 0 refl
changes (ChangeSoftKeyMask type mask keys) other (objects.DataMask o) = either _ (type == 1) _ _ (tested _ _ _ _ (in_row _ 1 refl)) (in_row _ 0 refl)
changes (ChangeSoftKeyMask type mask keys) other (objects.AlarmMask o) = either _ (type == 2) _ _ (tested _ _ _ _ (in_row _ 1 refl)) (in_row _ 0 refl)
changes (ChangeSoftKeyMask type mask keys) other o = in_row _ 0 refl
changes (ChangeAttribute id number value) other o =
    either _ (is_member sets.WithAttributes (kind_of o)) _ _ (attribute _ (attribute_at (kind_of o) number) other value o (in_row _ 1 refl) (in_row _ 2 refl)) (in_row _ 0 refl)
changes (ChangePriority id priority) other o = either _ (is_member sets.AlarmMasks (kind_of o)) _ _ (tested _ _ _ _ (in_row _ 1 refl)) (in_row _ 0 refl)
changes (ChangeListItem id index item) other (objects.InputList o) = either _ (nat_lt index (length o.items)) _ _ (tested _ _ _ _ (in_row _ 2 refl)) (in_row _ 1 refl)
changes (ChangeListItem id index item) other o = in_row _ 0 refl
changes (ChangeStringValue id count text) other (objects.InputString o) = tested _ _ _ _ (in_row _ 2 refl)
changes (ChangeStringValue id count text) other (objects.OutputString o) = tested _ _ _ _ (in_row _ 2 refl)
changes (ChangeStringValue id count text) other (objects.StringVariable o) = tested _ _ _ _ (in_row _ 2 refl)
changes (ChangeStringValue id count text) other o = in_row _ 1 refl
changes (ChangeChildPosition parent child x y) other o =
    parents _ _ o (in_row _ 0 refl) (λ children. moved _ child other children (Ok _) (in_row _ 0 refl) (in_row _ 1 refl) tt)
changes (ExecuteMacro id) other (objects.Macro o) = tested _ _ _ _ (in_row _ 2 refl)
changes (ExecuteMacro id) other o = in_row _ 1 refl
changes _ other o = tt

-- ---- the effect of each command

-- the bit of a missing object
missing : (command : Command) (id : ℕ) → object_of command ≡ Some id → HasBit (row_of command) (missing_error command)
missing (HideShow object state) id is = in_row _ 1 refl
missing (EnableDisable object state) id is = in_row _ 1 refl
missing (ControlAudio count frequency on off) id is = absurd cc
missing (SetVolume volume) id is = absurd cc
missing DeletePool id is = absurd cc
missing (ChangeStringValue object count text) id is = in_row _ 1 refl
missing _ id is = in_row _ 0 refl

-- the bit of a value that breaks the order
ordered : (store : ObjectMap) (command : Command) (new : ObjectMap) → IsAnswered (row_of command) (if_passed (keeps_order store command new) (value_error command) new)
ordered store (ChangeNumericValue id value) new = tested _ _ _ new (in_row _ 1 refl)
ordered store (ChangeAttribute id number value) new = tested _ _ _ new (in_row _ 2 refl)
ordered store (ChangeListItem id index item) new = tested _ _ _ new (in_row _ 2 refl)
ordered store _ new = tt

-- a command without an object
without : (store : ObjectMap) (command : Command) → IsAnswered (row_of command) (without_object store command)
without store (SetVolume volume) = tested _ _ _ store (in_row _ 4 refl)
without store _ = tt

-- a change of an object that is there
inserted : (store : ObjectMap) (command : Command) (id : ℕ) (made : Result Seen ℕ) → IsAnswered (row_of command) made
    → IsAnswered (row_of command) (in_order store command (insert_ok store id made))
inserted store command id (Ok new) is = ordered store command (finite.insert store id new)
inserted store command id (Err error) is = is

-- an object that may be missing
found_at : (store : ObjectMap) (command : Command) (id : ℕ) (other : Option Kind) (found : Option Seen) → object_of command ≡ Some id
    → IsAnswered (row_of command) (in_order store command (changed_at store id command other found))
found_at store command id other None is = missing command id is
found_at store command id other (Some o) is = inserted store command id (changed command other o) (changes command other o)

answered : (store : ObjectMap) (command : Command) (object : Option ℕ) → object_of command ≡ object → IsAnswered (row_of command) (effect_on store command object)
answered store command None is = without store command
answered store command (Some id) is = found_at store command id (other_kind store (other_id command)) (finite.get store id) is

pub refusals_in_rows : RefusalsAreInTheirRows
unfolding effect
refusals_in_rows store command error is = subst (IsAnswered (row_of command)) is (answered store command (object_of command) refl)
