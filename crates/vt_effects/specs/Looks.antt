-- What the text of a screen shows of an object, and the commands that leave it unchanged
-- (docs/PROFILE.md, "The drawing and the screen text").
use Rattle.std.specs.Prelude.{◌≡◌, ℕ, ◌-◌, Bool, true, false, not, ◌==◌, ◌&&◌, ◌||◌, Option, Some, None}
use Rattle.std.specs.Option.{option_map}
use Rattle.std.specs.FinMap as finite
use Rattle.vt_kinds.specs.declared.kind.Kind.{Kind}
use Rattle.vt_kinds.specs.declared.kind.Kind.TheVariants as kinds
use Rattle.vt_kinds.specs.declared.fields.Attribute.{Attribute}
use Rattle.vt_kinds.specs.declared.fields.Field.{Field}
use Rattle.vt_kinds.specs.declared.fields.Field.TheVariants as fields
use Rattle.vt_kinds.specs.declared.object.Object.TheVariants as objects
use Rattle.vt_commands.specs.declared.command.Command.{Command}
use Rattle.vt_commands.specs.declared.command.Command.TheVariants.{HideShow, EnableDisable, ControlAudio, SetVolume, ChangeSize, ChangeBackgroundColour, ChangeNumericValue, ChangeEndPoint, ChangeFontAttributes, ChangeLineAttributes, ChangeFillAttributes, ChangeActiveMask, ChangeAttribute, ChangePriority, ExecuteMacro}
use Rattle.vt_kinds.specs.Records.{Seen, kind_of}
use Rattle.vt_kinds.specs.Attributes.{attribute_at}
use Rattle.vt_stores.specs.Stores.{ObjectMap}
use Rattle.vt_commands.specs.Targets.{object_of}
use Rattle.vt_effects.specs.Changes.{is_state, with_lowest_bit}
use Rattle.vt_effects.specs.Effects.{after}
use Rattle.vt_effects.specs.Fields.{low_byte, low_word}

-- ---- the look of an object: the object with 0 in each field that no text shows

abbrev pub look : Seen → Seen
look (objects.WorkingSet o) = objects.WorkingSet (record o { colour = 0; selectable = 0 })
look (objects.DataMask o) = objects.DataMask (record o { colour = 0 })
look (objects.AlarmMask o) = objects.AlarmMask (record o { colour = 0; priority = 0; acoustic = 0 })
look (objects.SoftKeyMask o) = objects.SoftKeyMask (record o { colour = 0 })
look (objects.Key o) = objects.Key (record o { colour = 0 })
look (objects.Button o) = objects.Button (record o { colour = 0; border = 0; options = 0 })
look (objects.InputBoolean o) = objects.InputBoolean (record o { colour = 0; width = 0; font = 0 })
look (objects.InputString o) =
    objects.InputString (record o { width = 0; height = 0; colour = 0; font = 0; input_attributes = 0; options = 0; justification = 0 })
look (objects.InputNumber o) =
    objects.InputNumber (record o { width = 0; height = 0; colour = 0; font = 0; options = 0; min = 0; max = 0; format = 0; justification = 0 })
look (objects.InputList o) = objects.InputList (record o { width = 0; height = 0 })
look (objects.OutputString o) =
    objects.OutputString (record o { width = 0; height = 0; colour = 0; font = 0; options = 0; justification = 0 })
look (objects.OutputNumber o) =
    objects.OutputNumber (record o { width = 0; height = 0; colour = 0; font = 0; options = 0; format = 0; justification = 0 })
look (objects.Line o) = objects.Line (record o { line_attributes = 0 })
look (objects.Rectangle o) = objects.Rectangle (record o { line_attributes = 0; suppression = 0; fill = 0 })
look (objects.Ellipse o) = objects.Ellipse (record o { line_attributes = 0; ellipse_type = 0; start = 0; end = 0; fill = 0 })
look (objects.Polygon o) = objects.Polygon (record o { line_attributes = 0; fill = 0; polygon_type = 0 })
look (objects.Meter o) =
    objects.Meter (record o { width = 0; needle_colour = 0; border_colour = 0; arc_colour = 0; options = 0; ticks = 0; start = 0; end = 0; min = 0; max = 0 })
look (objects.LinearBar o) = objects.LinearBar (record o { colour = 0; target_colour = 0; options = 0; ticks = 0; min = 0; max = 0 })
look (objects.ArchedBar o) =
    objects.ArchedBar (record o { colour = 0; target_colour = 0; options = 0; start = 0; end = 0; bar_width = 0; min = 0; max = 0 })
look (objects.Picture o) = objects.Picture (record o { options = 0; transparency = 0 })
look (objects.Font o) = objects.Font (record o { colour = 0; size = 0; font_type = 0; style = 0 })
look (objects.LineAttributes o) = objects.LineAttributes (record o { colour = 0; width = 0; line_art = 0 })
look (objects.FillAttributes o) = objects.FillAttributes (record o { fill_type = 0; colour = 0; pattern = 0 })
look (objects.InputAttributes o) = objects.InputAttributes (record o { validation_type = 0 })
look o = o

-- Two stores look the same: they have objects of the same look under each ID.
abbrev pub HaveSameLook : ObjectMap → ObjectMap → Type 0
HaveSameLook old new = (id : ℕ) → option_map look (finite.get new id) ≡ option_map look (finite.get old id)

-- ---- the fields in a text, of those that Change Attribute writes

abbrev pub shows_width : Kind → Bool
shows_width kinds.Container = true
shows_width kinds.Button = true
shows_width kinds.Line = true
shows_width kinds.Rectangle = true
shows_width kinds.Ellipse = true
shows_width kinds.Polygon = true
shows_width kinds.LinearBar = true
shows_width kinds.ArchedBar = true
shows_width kinds.Picture = true
shows_width kind = false

-- a picture's line has its width alone
abbrev pub shows_height : Kind → Bool
shows_height kinds.Picture = false
shows_height kind = shows_width kind

-- the lowest option of an Input List enables it
abbrev pub shows_options : Kind → Bool
shows_options kinds.InputList = true
shows_options kind = false

abbrev pub is_in_text : Field → Kind → Bool
is_in_text fields.Width kind = shows_width kind
is_in_text fields.Height kind = shows_height kind
is_in_text fields.Options kind = shows_options kind
is_in_text fields.SoftKeyMask kind = true
is_in_text fields.KeyCode kind = true
is_in_text fields.Variable kind = true
is_in_text fields.Offset kind = true
is_in_text fields.Scale kind = true
is_in_text fields.Decimals kind = true
is_in_text fields.Direction kind = true
is_in_text fields.TargetVariable kind = true
is_in_text fields.Target kind = true
is_in_text fields.Value kind = true
is_in_text field kind = false

-- ---- commands that write no field in a text

abbrev pub is_unseen_attribute : Option Attribute → Kind → Bool
is_unseen_attribute None kind = true
is_unseen_attribute (Some attribute) kind = not (is_in_text attribute.field kind)

-- whether a command writes no field that is in a text, in an object of a kind
abbrev pub writes_unseen : Command → Kind → Bool
writes_unseen (ChangeSize id width height) kind = not (shows_width kind) && not (shows_height kind)
writes_unseen (ChangeAttribute id number value) kind = is_unseen_attribute (attribute_at kind number) kind
writes_unseen (ChangeBackgroundColour id colour) kind = true
writes_unseen (ChangeFontAttributes id colour size type style) kind = true
writes_unseen (ChangeLineAttributes id colour width art) kind = not (shows_width kind)
writes_unseen (ChangeFillAttributes id type colour pattern) kind = true
writes_unseen (ChangePriority id priority) kind = true
writes_unseen (ExecuteMacro id) kind = true
writes_unseen (ControlAudio count frequency on off) kind = true
writes_unseen (SetVolume volume) kind = true
writes_unseen command kind = false

-- ---- commands that write the values that are there

abbrev pub has_enabled_state : ℕ → Seen → Bool
has_enabled_state state (objects.InputBoolean o) = o.enabled == state
has_enabled_state state (objects.InputString o) = o.enabled == state
has_enabled_state state (objects.InputNumber o) = o.options_two == with_lowest_bit o.options_two state
has_enabled_state state (objects.InputList o) = o.options == with_lowest_bit o.options state
has_enabled_state state o = false

abbrev pub has_value : ℕ → Seen → Bool
has_value n (objects.InputBoolean o) = o.value == low_byte n
has_value n (objects.InputNumber o) = o.value == n
has_value n (objects.InputList o) = o.value == low_byte n
has_value n (objects.OutputNumber o) = o.value == n
has_value n (objects.Meter o) = o.value == low_word n
has_value n (objects.LinearBar o) = o.value == low_word n
has_value n (objects.ArchedBar o) = o.value == low_word n
has_value n (objects.NumberVariable o) = o.value == n
has_value n (objects.ObjectPointer o) = o.value == low_word n
has_value n o = false

abbrev pub has_hidden_state : ℕ → Seen → Bool
has_hidden_state state (objects.Container o) = o.hidden == 1 - state
has_hidden_state state o = false

abbrev pub has_active : ℕ → Seen → Bool
has_active mask (objects.WorkingSet o) = o.active_mask == mask
has_active mask o = false

-- whether a command writes into an object what is there already
abbrev pub writes_same : Command → Seen → Bool
writes_same (HideShow id state) o = is_state state && has_hidden_state state o
writes_same (EnableDisable id state) o = is_state state && has_enabled_state state o
writes_same (ChangeNumericValue id value) o = has_value value o
writes_same (ChangeActiveMask set mask) o = has_active mask o
writes_same command o = false

-- ---- commands that leave the look of a store

abbrev pub keeps_look_of : Command → Option Seen → Bool
keeps_look_of command None = true
keeps_look_of command (Some o) = writes_unseen command (kind_of o) || writes_same command o

-- the object that a command changes
abbrev pub object_for : ObjectMap → Option ℕ → Option Seen
object_for store None = None
object_for store (Some id) = finite.get store id

-- whether a command leaves the look of its object, if it has one
abbrev pub keeps_look : ObjectMap → Command → Bool
keeps_look store command = keeps_look_of command (object_for store (object_of command))

-- A command that keeps the look of its object keeps the look of the store.
abbrev pub LooksAreKept : Type 0
LooksAreKept = (store : ObjectMap) (command : Command) → keeps_look store command ≡ true → HaveSameLook store (after store command)
