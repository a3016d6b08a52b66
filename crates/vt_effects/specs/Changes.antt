-- The effect of each command on its object: the changed object, or the error bit of the first test that fails
-- (docs/PROFILE.md, "Commands: form, tests, error byte and events" and the section of each command).
use Rattle.std.specs.Prelude.{◌≡◌, ◌⊎◌, Contains, IsTrue, ℕ, ℤ, pos, neg_ℤ, ◌+◌, ◌-◌, ◌%◌, ◌^◌, ◌+ℤ◌, ◌-ℤ◌, int_le, nat_le, nat_lt, Bool, true, false, not, ◌==◌, ◌&&◌, ◌||◌, if◌then◌else◌, List, [], ◌∷◌, map, set, take, length, Option, Some, None, is_some, Result, Ok, Err}
use Rattle.std.specs.List.{list_any, AllByRecursion}
use Rattle.vt_kinds.specs.declared.kind.Kind.{Kind}
use Rattle.vt_kinds.specs.declared.kind.Kind.TheVariants as kinds
use Rattle.vt_kinds.specs.declared.kinds.Kinds.{Kinds}
use Rattle.vt_kinds.specs.declared.kinds.Kinds.TheVariants as sets
use Rattle.vt_kinds.specs.declared.place.Place.{Place}
use Rattle.vt_kinds.specs.declared.place.Place.TheVariants as places
use Rattle.vt_kinds.specs.declared.slot.Slot.{Slot}
use Rattle.vt_kinds.specs.declared.entries.Child.{Child}
use Rattle.vt_kinds.specs.declared.fields.Attribute.{Attribute}
use Rattle.vt_kinds.specs.declared.fields.Field.{Field}
use Rattle.vt_kinds.specs.declared.fields.Field.TheVariants as fields
use Rattle.vt_kinds.specs.declared.fields.ValueType.{ValueType}
use Rattle.vt_kinds.specs.declared.fields.ValueType.TheVariants as types
use Rattle.vt_kinds.specs.declared.object.Object.TheVariants as objects
use Rattle.vt_commands.specs.declared.command.Command.{Command}
use Rattle.vt_commands.specs.declared.command.Command.TheVariants.{HideShow, EnableDisable, ControlAudio, SetVolume, ChangeChildLocation, ChangeSize, ChangeBackgroundColour, ChangeNumericValue, ChangeEndPoint, ChangeFontAttributes, ChangeLineAttributes, ChangeFillAttributes, ChangeActiveMask, ChangeSoftKeyMask, ChangeAttribute, ChangePriority, ChangeListItem, DeletePool, ChangeStringValue, ChangeChildPosition, ExecuteMacro}
use Rattle.vt_kinds.specs.Records.{Seen, kind_of}
use Rattle.vt_kinds.specs.References.{allowed, may_be_null, is_member, slot, slots_of}
use Rattle.vt_kinds.specs.Attributes.{attribute_at}
use Rattle.vt_kinds.specs.Scales.{scale_at}
use Rattle.vt_kinds.specs.Texts.{filled_up}
use Rattle.vt_stores.specs.Shapes.{fixed}
use Rattle.vt_effects.specs.Errors as errors
use Rattle.vt_effects.specs.Fields.{low_byte, low_word, with_field, with_fields}

-- the value if a test is passed, or else the error
abbrev pub if_passed : {A : Type 0} → Bool → ℕ → A → Result A ℕ
if_passed test error x = if test then Ok x else Err error

-- ---- the allowed IDs of other objects, by their kind; None for a missing object

-- the object exists and is of one of these kinds
abbrev pub is_one_of : Kinds → Option Kind → Bool
is_one_of kinds None = false
is_one_of kinds (Some kind) = is_member kinds kind

-- whether an object of a kind may refer to an ID at a place
abbrev pub may_refer : Kind → Place → ℕ → Option Kind → Bool
may_refer kind place id kind_of_other = if id == 0xFFFF then may_be_null place else is_one_of (allowed kind place) kind_of_other

-- ---- Hide/Show and Enable/Disable: state 1 shows or enables, and state 0 hides or disables

abbrev pub is_state : ℕ → Bool
is_state state = nat_le state 1

abbrev pub hide_show : ℕ → Seen → Result Seen ℕ
hide_show state (objects.Container o) = if_passed (is_state state) errors.STATE (objects.Container (record o { hidden = 1 - state }))
hide_show state _ = Err errors.OBJECT_ID

-- options with their lowest bit replaced
abbrev pub with_lowest_bit : ℕ → ℕ → ℕ
with_lowest_bit options state = options - options % 2 + state

abbrev pub enable_disable : ℕ → Seen → Result Seen ℕ
enable_disable state (objects.InputBoolean o) = if_passed (is_state state) errors.STATE (objects.InputBoolean (record o { enabled = state }))
enable_disable state (objects.InputString o) = if_passed (is_state state) errors.STATE (objects.InputString (record o { enabled = state }))
enable_disable state (objects.InputNumber o) = if_passed (is_state state) errors.STATE (objects.InputNumber (record o { options_two = with_lowest_bit o.options_two state }))
enable_disable state (objects.InputList o) = if_passed (is_state state) errors.STATE (objects.InputList (record o { options = with_lowest_bit o.options state }))
enable_disable state _ = Err errors.OBJECT_ID

-- ---- Change Child Location and Change Child Position change every entry of the child

abbrev pub stands_in : ℕ → List Child → Bool
stands_in child children = list_any (λ c. c.id == child) children

-- a position within the range of a record
abbrev pub is_position : ℤ → Bool
is_position x = int_le (neg_ℤ (pos 32768)) x && int_le x (pos 32767)

abbrev pub fits_record : Child → Bool
fits_record c = is_position c.x && is_position c.y

-- a position moved by a number of pixels minus 127
abbrev pub moved : ℤ → ℕ → ℤ
moved x by = x +ℤ pos by -ℤ pos 127

abbrev pub moved_child : ℕ → ℕ → Child → Child
moved_child dx dy c = record c { x = moved c.x dx; y = moved c.y dy }

abbrev pub placed : ℤ → ℤ → Child → Child
placed x y c = record c { x = x; y = y }

-- an entry, moved if it is of the child
abbrev pub child_at : ℕ → (Child → Child) → Child → Child
child_at child move c = if c.id == child then move c else c

-- the children, with every entry of one child moved
abbrev pub move_child : ℕ → (Child → Child) → List Child → List Child
move_child child move children = map (child_at child move) children

-- whether an entry of the child gets a position outside the range of a record
abbrev pub leaves : ℕ → ℕ → ℕ → List Child → Bool
leaves child dx dy children = list_any (λ c. c.id == child && not (fits_record (moved_child dx dy c))) children

-- The tests after that of the parent, in order: whether the child exists, and whether it is in the parent's list.
abbrev pub for_child : ℕ → Option Kind → List Child → Result (List Child) ℕ → Result (List Child) ℕ
for_child child None children moved = Err errors.CHILD
for_child child (Some kind) children moved = if stands_in child children then moved else Err errors.OBJECT

abbrev pub change_location : Option Kind → ℕ → ℕ → ℕ → List Child → Result (List Child) ℕ
change_location kind_of_other child dx dy children =
    for_child child kind_of_other children (if_passed (not (leaves child dx dy children)) errors.OTHER (move_child child (moved_child dx dy) children))

abbrev pub change_position : Option Kind → ℕ → ℤ → ℤ → List Child → Result (List Child) ℕ
change_position kind_of_other child x y children = for_child child kind_of_other children (Ok (move_child child (placed x y) children))

abbrev pub put_children : (List Child → Seen) → Result (List Child) ℕ → Result Seen ℕ
put_children parent (Ok children) = Ok (parent children)
put_children parent (Err error) = Err error

-- a parent with changed children, if it is of a kind with positions for them
abbrev pub in_parent : (List Child → Result (List Child) ℕ) → Seen → Result Seen ℕ
in_parent change (objects.WorkingSet o) = put_children (λ children. objects.WorkingSet (record o { children = children })) (change o.children)
in_parent change (objects.DataMask o) = put_children (λ children. objects.DataMask (record o { children = children })) (change o.children)
in_parent change (objects.AlarmMask o) = put_children (λ children. objects.AlarmMask (record o { children = children })) (change o.children)
in_parent change (objects.Container o) = put_children (λ children. objects.Container (record o { children = children })) (change o.children)
in_parent change (objects.Key o) = put_children (λ children. objects.Key (record o { children = children })) (change o.children)
in_parent change (objects.Button o) = put_children (λ children. objects.Button (record o { children = children })) (change o.children)
in_parent change _ = Err errors.OBJECT

-- ---- commands that write fields and do no more

-- the result for an object of these kinds, and the error byte for an object of another kind
abbrev pub for_kinds : Kinds → Seen → Result Seen ℕ → Result Seen ℕ
for_kinds kinds o made = if is_member kinds (kind_of o) then made else Err errors.OBJECT

-- an object of these kinds with other values of some fields, where a test is passed
abbrev pub write_fields_if : Kinds → Bool → ℕ → List (Field × ℕ) → Seen → Result Seen ℕ
write_fields_if kinds test error values o = for_kinds kinds o (if_passed test error (with_fields values o))

-- the same with no test
abbrev pub write_fields : Kinds → List (Field × ℕ) → Seen → Result Seen ℕ
write_fields kinds values o = for_kinds kinds o (Ok (with_fields values o))

-- ---- Change Numeric Value uses as many of the lowest bytes as a kind's value has

-- whether a number is the index of an entry, or 255 for none
abbrev pub is_index : ℕ → ℕ → Bool
is_index index count = nat_lt index count || (index == 255)

abbrev pub change_value : Option Kind → ℕ → Seen → Result Seen ℕ
change_value kind_of_other n (objects.InputBoolean o) = if_passed (nat_le (low_byte n) 1) errors.VALUE (objects.InputBoolean (record o { value = low_byte n }))
change_value kind_of_other n (objects.InputNumber o) = if_passed (nat_le o.min n && nat_le n o.max) errors.VALUE (objects.InputNumber (record o { value = n }))
change_value kind_of_other n (objects.InputList o) = if_passed (is_index (low_byte n) (length o.items)) errors.VALUE (objects.InputList (record o { value = low_byte n }))
change_value kind_of_other n (objects.OutputNumber o) = Ok (objects.OutputNumber (record o { value = n }))
change_value kind_of_other n (objects.Meter o) = Ok (objects.Meter (record o { value = low_word n }))
change_value kind_of_other n (objects.LinearBar o) = Ok (objects.LinearBar (record o { value = low_word n }))
change_value kind_of_other n (objects.ArchedBar o) = Ok (objects.ArchedBar (record o { value = low_word n }))
change_value kind_of_other n (objects.NumberVariable o) = Ok (objects.NumberVariable (record o { value = n }))
change_value kind_of_other n (objects.ObjectPointer o) =
    if_passed (may_refer kinds.ObjectPointer places.Value (low_word n) kind_of_other) errors.VALUE (objects.ObjectPointer (record o { value = low_word n }))
change_value kind_of_other n _ = Err errors.OBJECT

-- ---- Change Fill Attributes

abbrev pub change_fill_attributes : Option Kind → ℕ → ℕ → ℕ → Seen → Result Seen ℕ
change_fill_attributes kind_of_other type colour pattern (objects.FillAttributes o) =
    if_passed (may_refer kinds.FillAttributes places.Pattern pattern kind_of_other) errors.PATTERN (objects.FillAttributes (record o { fill_type = type; colour = colour; pattern = pattern }))
change_fill_attributes kind_of_other type colour pattern _ = Err errors.OBJECT

-- ---- Change Active Mask requires an existing mask

abbrev pub change_active_mask : Option Kind → ℕ → Seen → Result Seen ℕ
change_active_mask kind_of_other mask (objects.WorkingSet o) =
    if_passed (is_one_of sets.Masks kind_of_other) errors.VALUE (objects.WorkingSet (record o { active_mask = mask }))
change_active_mask kind_of_other mask _ = Err errors.OBJECT

-- ---- Change Soft Key Mask: type 1 is a Data Mask, and type 2 an Alarm Mask

abbrev pub change_soft_key_mask : Option Kind → ℕ → ℕ → Seen → Result Seen ℕ
change_soft_key_mask kind_of_other type keys (objects.DataMask o) =
    if type == 1
    then if_passed (may_refer kinds.DataMask places.SoftKeyMask keys kind_of_other) errors.VALUE (objects.DataMask (record o { soft_key_mask = keys }))
    else Err errors.OBJECT
change_soft_key_mask kind_of_other type keys (objects.AlarmMask o) =
    if type == 2
    then if_passed (may_refer kinds.AlarmMask places.SoftKeyMask keys kind_of_other) errors.VALUE (objects.AlarmMask (record o { soft_key_mask = keys }))
    else Err errors.OBJECT
change_soft_key_mask kind_of_other type keys _ = Err errors.OBJECT

-- ---- Change Attribute

-- whether a field of a type accepts the lowest bytes of a value
abbrev pub takes : Kind → ValueType → ℕ → Option Kind → Bool
takes kind (types.Reference place) n kind_of_other = may_refer kind place (low_word n) kind_of_other
takes kind types.Priority n kind_of_other = nat_le (low_byte n) 2
takes kind types.Scale n kind_of_other = is_some (scale_at n)
takes kind types.Decimals n kind_of_other = nat_le (low_byte n) 7
takes kind _ n kind_of_other = true

abbrev pub put_attribute : Option Attribute → Option Kind → ℕ → Seen → Result Seen ℕ
put_attribute None kind_of_other n o = Err errors.ATTRIBUTE
put_attribute (Some attribute) kind_of_other n o =
    if_passed (takes (kind_of o) attribute.value_type n kind_of_other) errors.ATTRIBUTE_VALUE (with_field attribute.field n o)

abbrev pub change_attribute : Option Kind → ℕ → ℕ → Seen → Result Seen ℕ
change_attribute kind_of_other number n o =
    for_kinds sets.WithAttributes o (put_attribute (attribute_at (kind_of o) number) kind_of_other n o)

-- ---- Change List Item, Change String Value, Execute Macro

abbrev pub change_item : Option Kind → ℕ → ℕ → Seen → Result Seen ℕ
change_item kind_of_other index item (objects.InputList o) =
    if nat_lt index (length o.items)
    then if_passed (may_refer kinds.InputList (places.Item index) item kind_of_other) errors.ITEM (objects.InputList (record o { items = set o.items index item }))
    else Err errors.INDEX
change_item kind_of_other index item _ = Err errors.OBJECT

-- whether a length exceeds neither the object's text nor the bytes of the command
abbrev pub is_length : ℕ → List ℕ → List ℕ → Bool
is_length count text old = nat_le count (length old) && nat_le count (length text)

-- a text overwritten with the first bytes of another, and filled up with spaces to its former length
abbrev pub over : ℕ → List ℕ → List ℕ → List ℕ
over count text old = filled_up (length old) (take count text)

abbrev pub change_text : ℕ → List ℕ → Seen → Result Seen ℕ
change_text count text (objects.InputString o) = if_passed (is_length count text o.text) errors.LENGTH (objects.InputString (record o { text = over count text o.text }))
change_text count text (objects.OutputString o) = if_passed (is_length count text o.text) errors.LENGTH (objects.OutputString (record o { text = over count text o.text }))
change_text count text (objects.StringVariable o) = if_passed (is_length count text o.text) errors.LENGTH (objects.StringVariable (record o { text = over count text o.text }))
change_text count text _ = Err errors.OBJECT_ID

-- the macro is unchanged
abbrev pub execute_macro : ℕ → Seen → Result Seen ℕ
execute_macro id (objects.Macro o) = if_passed (nat_le id 255) errors.MACRO_ID (objects.Macro o)
execute_macro id _ = Err errors.OBJECT_ID

-- ---- all commands

-- the other ID of a command: in Change Numeric Value and Change Attribute the two lowest bytes of the value, which are an
-- ID if the field is a reference
abbrev pub other_id : Command → Option ℕ
other_id (ChangeChildLocation parent child dx dy) = Some child
other_id (ChangeChildPosition parent child x y) = Some child
other_id (ChangeNumericValue id value) = Some (low_word value)
other_id (ChangeFillAttributes id type colour pattern) = Some pattern
other_id (ChangeActiveMask set mask) = Some mask
other_id (ChangeSoftKeyMask type mask keys) = Some keys
other_id (ChangeAttribute id number value) = Some (low_word value)
other_id (ChangeListItem id index item) = Some item
other_id _ = None

-- The effect of a command on its object, where `kind_of_other` is the kind of the other object, or None if it is missing.
abbrev pub changed : Command → Option Kind → Seen → Result Seen ℕ
changed (HideShow id state) kind_of_other o = hide_show state o
changed (EnableDisable id state) kind_of_other o = enable_disable state o
changed (ChangeChildLocation parent child dx dy) kind_of_other o = in_parent (change_location kind_of_other child dx dy) o
changed (ChangeSize id width height) kind_of_other o = write_fields sets.Sized ((fields.Width, width) ∷ (fields.Height, height) ∷ []) o
changed (ChangeBackgroundColour id colour) kind_of_other o = write_fields sets.Coloured ((fields.Colour, colour) ∷ []) o
changed (ChangeNumericValue id value) kind_of_other o = change_value kind_of_other value o
changed (ChangeEndPoint id width height direction) kind_of_other o =
    write_fields_if sets.Lines (nat_le direction 1) errors.VALUE ((fields.Width, width) ∷ (fields.Height, height) ∷ (fields.Direction, direction) ∷ []) o
changed (ChangeFontAttributes id colour size type style) kind_of_other o =
    write_fields sets.Fonts ((fields.Colour, colour) ∷ (fields.Size, size) ∷ (fields.Type, type) ∷ (fields.Style, style) ∷ []) o
changed (ChangeLineAttributes id colour width art) kind_of_other o =
    write_fields sets.LineAttributes ((fields.Colour, colour) ∷ (fields.Width, width) ∷ (fields.LineArt, art) ∷ []) o
changed (ChangeFillAttributes id type colour pattern) kind_of_other o = change_fill_attributes kind_of_other type colour pattern o
changed (ChangeActiveMask set mask) kind_of_other o = change_active_mask kind_of_other mask o
changed (ChangeSoftKeyMask type mask keys) kind_of_other o = change_soft_key_mask kind_of_other type keys o
changed (ChangeAttribute id number value) kind_of_other o = change_attribute kind_of_other number value o
changed (ChangePriority id priority) kind_of_other o =
    write_fields_if sets.AlarmMasks (nat_le priority 2) errors.VALUE ((fields.Priority, priority) ∷ []) o
changed (ChangeListItem id index item) kind_of_other o = change_item kind_of_other index item o
changed (ChangeStringValue id count text) kind_of_other o = change_text count text o
changed (ChangeChildPosition parent child x y) kind_of_other o = in_parent (change_position kind_of_other child x y) o
changed (ExecuteMacro id) kind_of_other o = execute_macro id o
changed (ControlAudio count frequency on off) kind_of_other o = Ok o
changed (SetVolume volume) kind_of_other o = Ok o
changed DeletePool kind_of_other o = Ok o

-- ---- the result of a call and the changed object

-- a call has the same result as the specification
abbrev pub HasResult : {A : Type 0} → Result (Unit {0}) ℕ → Result A ℕ → Type 0
HasResult (Ok done) (Ok x) = Unit {0}
HasResult (Err error) (Err other) = error ≡ other
HasResult (Ok done) (Err other) = ⊥
HasResult (Err error) (Ok x) = ⊥

-- the object after a change; unchanged if the change is refused
abbrev pub left : {A : Type 0} → A → Result A ℕ → A
left old (Ok x) = x
left old (Err error) = old

-- No command changes the kind of an object, the macros of its events, or the bytes of a macro.
abbrev pub ChangesKeep : Type 0
ChangesKeep = (command : Command) (kind_of_other : Option Kind) (o : Seen) → fixed (left o (changed command kind_of_other o)) ≡ fixed o

-- whether a place of an object of a kind is an attribute; a Value is one only in pointers
abbrev pub is_attribute : Place → Kind → Bool
is_attribute places.ActiveMask kind = false
is_attribute (places.Child index) kind = false
is_attribute (places.Key index) kind = false
is_attribute (places.Item index) kind = false
is_attribute places.Value kinds.ObjectPointer = true
is_attribute places.Value kind = false
is_attribute place kind = true

-- whether a command may write its other ID at a place of an object of a kind
abbrev pub writes : Command → Place → Kind → Bool
writes (ChangeNumericValue id value) places.Value kinds.ObjectPointer = true
writes (ChangeFillAttributes id type colour pattern) places.Pattern kind = true
writes (ChangeActiveMask set mask) places.ActiveMask kind = true
writes (ChangeSoftKeyMask type mask keys) places.SoftKeyMask kind = true
writes (ChangeListItem id index item) (places.Item place) kind = index == place
writes (ChangeAttribute id number value) place kind = is_attribute place kind
writes _ _ _ = false

-- the reference that a command writes in an object of a kind: its other ID, at a place that allows it
pub record IsWritten (command : Command) (kind_of_other : Option Kind) (kind : Kind) (s : Slot) : Type 0 where
  pub place : Place
  pub id : ℕ
  pub is : s ≡ slot kind place id
  pub other : other_id command ≡ Some id
  pub written : IsTrue (writes command place kind)
  pub allowed : IsTrue (may_refer kind place id kind_of_other)

-- Each reference of an object after a command is one of its former references or one written by the command.
abbrev pub ReferencesMayRefer : Type 0
ReferencesMayRefer = (command : Command) (kind_of_other : Option Kind) (o : Seen)
    → AllByRecursion (λ s. Contains (slots_of o) s ⊎ IsWritten command kind_of_other (kind_of o) s) (slots_of (left o (changed command kind_of_other o)))
