-- The object IDs in a command and their allowed kinds, for commands in macros (docs/PROFILE.md, "Commands in macros").
use Rattle.std.specs.Prelude.{ℕ, ◌%◌, true, false, List, [], ◌∷◌, Option, Some, None}
use Rattle.vt_kinds.specs.declared.kind.Kind.{Kind}
use Rattle.vt_kinds.specs.declared.kind.Kind.TheVariants as kinds
use Rattle.vt_kinds.specs.declared.kinds.Kinds.{Kinds}
use Rattle.vt_kinds.specs.declared.kinds.Kinds.TheVariants as sets
use Rattle.vt_kinds.specs.declared.fields.Attribute.{Attribute}
use Rattle.vt_kinds.specs.declared.fields.ValueType.{ValueType}
use Rattle.vt_kinds.specs.declared.fields.ValueType.TheVariants as types
use Rattle.vt_commands.specs.declared.command.Command.{Command}
use Rattle.vt_commands.specs.declared.command.Command.TheVariants.{HideShow, EnableDisable, ControlAudio, SetVolume, ChangeChildLocation, ChangeSize, ChangeBackgroundColour, ChangeNumericValue, ChangeEndPoint, ChangeFontAttributes, ChangeLineAttributes, ChangeFillAttributes, ChangeActiveMask, ChangeSoftKeyMask, ChangeAttribute, ChangePriority, ChangeListItem, DeletePool, ChangeStringValue, ChangeChildPosition, ExecuteMacro}
use Rattle.vt_commands.specs.declared.target.Target.{Target}
use Rattle.vt_kinds.specs.Attributes.{attribute_at, lowest}
use Rattle.vt_kinds.specs.References.{allowed, may_be_null}

-- a target of these kinds, not NULL
abbrev pub object : ℕ → Kinds → Target
object id kinds = record { id = id; may_be_null = false; kinds = kinds }

-- a target of these kinds, or NULL
abbrev pub object_or_null : ℕ → Kinds → Target
object_or_null id kinds = record { id = id; may_be_null = true; kinds = kinds }

-- the object that a command changes, or the macro that it runs
abbrev pub object_of : Command → Option ℕ
object_of (HideShow id state) = Some id
object_of (EnableDisable id state) = Some id
object_of (ControlAudio count frequency on off) = None
object_of (SetVolume volume) = None
object_of (ChangeChildLocation parent child dx dy) = Some parent
object_of (ChangeSize id width height) = Some id
object_of (ChangeBackgroundColour id colour) = Some id
object_of (ChangeNumericValue id value) = Some id
object_of (ChangeEndPoint id width height direction) = Some id
object_of (ChangeFontAttributes id colour size type style) = Some id
object_of (ChangeLineAttributes id colour width art) = Some id
object_of (ChangeFillAttributes id type colour pattern) = Some id
object_of (ChangeActiveMask set mask) = Some set
object_of (ChangeSoftKeyMask type mask keys) = Some mask
object_of (ChangeAttribute id number value) = Some id
object_of (ChangePriority id priority) = Some id
object_of (ChangeListItem id index item) = Some id
object_of DeletePool = None
object_of (ChangeStringValue id length text) = Some id
object_of (ChangeChildPosition parent child x y) = Some parent
object_of (ExecuteMacro id) = Some id

-- the new value of an object pointer
abbrev pub pointer_targets : Option Kind → ℕ → List Target
pointer_targets (Some kinds.ObjectPointer) value = object_or_null (value % 65536) sets.AllButPointers ∷ []
pointer_targets kind value = []

-- the new value of a reference attribute
abbrev pub referred : Kind → ValueType → ℕ → List Target
referred kind (types.Reference place) value =
    record { id = lowest (types.Reference place) value; may_be_null = may_be_null place; kinds = allowed kind place } ∷ []
referred kind type value = []

abbrev pub attribute_value : Kind → Option Attribute → ℕ → List Target
attribute_value kind None value = []
attribute_value kind (Some attribute) value = referred kind attribute.value_type value

abbrev pub attribute_target : Option Kind → ℕ → ℕ → List Target
attribute_target None number value = []
attribute_target (Some kind) number value = attribute_value kind (attribute_at kind number) value

-- The object IDs in a command, in the order of its bytes. The kind of the changed object decides whether a value
-- is an ID.
abbrev pub targets : Option Kind → Command → List Target
targets kind (HideShow id state) = object id sets.Containers ∷ []
targets kind (EnableDisable id state) = object id sets.Inputs ∷ []
targets kind (ControlAudio count frequency on off) = []
targets kind (SetVolume volume) = []
targets kind (ChangeChildLocation parent child dx dy) = object parent sets.Parents ∷ object child sets.Drawn ∷ []
targets kind (ChangeSize id width height) = object id sets.Sized ∷ []
targets kind (ChangeBackgroundColour id colour) = object id sets.Coloured ∷ []
targets kind (ChangeNumericValue id value) = object id sets.Numeric ∷ pointer_targets kind value
targets kind (ChangeEndPoint id width height direction) = object id sets.Lines ∷ []
targets kind (ChangeFontAttributes id colour size type style) = object id sets.Fonts ∷ []
targets kind (ChangeLineAttributes id colour width art) = object id sets.LineAttributes ∷ []
targets kind (ChangeFillAttributes id type colour pattern) = object id sets.FillAttributes ∷ object_or_null pattern sets.Pictures ∷ []
targets kind (ChangeActiveMask set mask) = object set sets.WorkingSets ∷ object mask sets.Masks ∷ []
targets kind (ChangeSoftKeyMask type mask keys) = object mask sets.Masks ∷ object_or_null keys sets.SoftKeyMasks ∷ []
targets kind (ChangeAttribute id number value) = object id sets.WithAttributes ∷ attribute_target kind number value
targets kind (ChangePriority id priority) = object id sets.AlarmMasks ∷ []
targets kind (ChangeListItem id index item) = object id sets.InputLists ∷ object_or_null item sets.Drawn ∷ []
targets kind DeletePool = []
targets kind (ChangeStringValue id length text) = object id sets.Texts ∷ []
targets kind (ChangeChildPosition parent child x y) = object parent sets.Parents ∷ object child sets.Drawn ∷ []
targets kind (ExecuteMacro id) = object id sets.Macros ∷ []
