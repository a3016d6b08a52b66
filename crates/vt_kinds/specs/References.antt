-- The references of an object: the kinds that each allows, and whether it may be NULL
-- (docs/PROFILE.md, "Places and their kinds").
use Rattle.std.specs.Prelude.{ℕ, suc, Bool, true, false, not, ◌==◌, List, [], ◌∷◌, map, filter}
use Rattle.std.specs.List.{list_any}
use Rattle.vt_kinds.specs.declared.kind.Kind.{Kind}
use Rattle.vt_kinds.specs.declared.kind.Kind.TheVariants as kinds
use Rattle.vt_kinds.specs.Kinds.{every_kind, kind_number}
use Rattle.vt_kinds.specs.declared.kinds.Kinds.{Kinds}
use Rattle.vt_kinds.specs.declared.kinds.Kinds.TheVariants as sets
use Rattle.vt_kinds.specs.declared.place.Place.{Place}
use Rattle.vt_kinds.specs.declared.place.Place.TheVariants as places
use Rattle.vt_kinds.specs.declared.slot.Slot.{Slot}
use Rattle.vt_kinds.specs.declared.entries.Child.{Child}
use Rattle.vt_kinds.specs.declared.object.Object.{Object}
use Rattle.vt_kinds.specs.declared.object.Object.TheVariants as objects

-- ---- the sets of kinds

-- the drawn kinds, without and with the working set
abbrev pub drawn_in_working_set : List Kind
drawn_in_working_set =
    kinds.Container ∷ kinds.Button ∷ kinds.InputBoolean ∷ kinds.InputString ∷ kinds.InputNumber ∷ kinds.InputList
    ∷ kinds.OutputString ∷ kinds.OutputNumber ∷ kinds.Line ∷ kinds.Rectangle ∷ kinds.Ellipse ∷ kinds.Polygon
    ∷ kinds.Meter ∷ kinds.LinearBar ∷ kinds.ArchedBar ∷ kinds.Picture ∷ kinds.ObjectPointer ∷ []

abbrev pub drawn : List Kind
drawn = kinds.WorkingSet ∷ drawn_in_working_set

abbrev pub is_pointer : Kind → Bool
is_pointer kinds.ObjectPointer = true
is_pointer kind = false

abbrev pub all_but_pointers : List Kind
all_but_pointers = filter (λ kind. not (is_pointer kind)) every_kind

-- the kinds with positioned children
abbrev pub parents : List Kind
parents =
    kinds.WorkingSet ∷ kinds.DataMask ∷ kinds.AlarmMask ∷ kinds.Container ∷ kinds.Key ∷ kinds.Button ∷ []

-- the kinds with a size, a background colour, an enabled flag, a numeric value, or a text that commands change
abbrev pub sized : List Kind
sized =
    kinds.Container ∷ kinds.Button ∷ kinds.InputBoolean ∷ kinds.InputString ∷ kinds.InputNumber ∷ kinds.InputList
    ∷ kinds.OutputString ∷ kinds.OutputNumber ∷ kinds.Rectangle ∷ kinds.Ellipse ∷ kinds.Polygon ∷ kinds.Meter
    ∷ kinds.LinearBar ∷ kinds.ArchedBar ∷ kinds.Picture ∷ []

abbrev pub coloured : List Kind
coloured =
    kinds.WorkingSet ∷ kinds.DataMask ∷ kinds.AlarmMask ∷ kinds.SoftKeyMask ∷ kinds.Key ∷ kinds.Button
    ∷ kinds.InputBoolean ∷ kinds.InputString ∷ kinds.InputNumber ∷ kinds.OutputString ∷ kinds.OutputNumber ∷ []

abbrev pub inputs : List Kind
inputs =
    kinds.InputBoolean ∷ kinds.InputString ∷ kinds.InputNumber ∷ kinds.InputList ∷ []

abbrev pub numeric : List Kind
numeric =
    kinds.InputBoolean ∷ kinds.InputNumber ∷ kinds.InputList ∷ kinds.OutputNumber ∷ kinds.Meter ∷ kinds.LinearBar
    ∷ kinds.ArchedBar ∷ kinds.NumberVariable ∷ kinds.ObjectPointer ∷ []

abbrev pub texts : List Kind
texts =
    kinds.InputString ∷ kinds.OutputString ∷ kinds.StringVariable ∷ []

-- the kinds with attributes that Change Attribute writes: all except variables and macros
abbrev pub has_none : Kind → Bool
has_none kinds.NumberVariable = true
has_none kinds.StringVariable = true
has_none kinds.Macro = true
has_none kind = false

abbrev pub with_attributes : List Kind
with_attributes = filter (λ kind. not (has_none kind)) every_kind

abbrev pub members : Kinds → List Kind
members sets.Masks = kinds.DataMask ∷ kinds.AlarmMask ∷ []
members sets.SoftKeyMasks = kinds.SoftKeyMask ∷ []
members sets.Drawn = drawn
members sets.DrawnInWorkingSet = drawn_in_working_set
members sets.Keys = kinds.Key ∷ kinds.ObjectPointer ∷ []
members sets.Fonts = kinds.Font ∷ []
members sets.InputAttributes = kinds.InputAttributes ∷ []
members sets.NumberVariables = kinds.NumberVariable ∷ []
members sets.StringVariables = kinds.StringVariable ∷ []
members sets.LineAttributes = kinds.LineAttributes ∷ []
members sets.FillAttributes = kinds.FillAttributes ∷ []
members sets.Pictures = kinds.Picture ∷ []
members sets.AllButPointers = all_but_pointers
members sets.WorkingSets = kinds.WorkingSet ∷ []
members sets.AlarmMasks = kinds.AlarmMask ∷ []
members sets.Containers = kinds.Container ∷ []
members sets.Parents = parents
members sets.Sized = sized
members sets.Coloured = coloured
members sets.Inputs = inputs
members sets.InputLists = kinds.InputList ∷ []
members sets.Numeric = numeric
members sets.Texts = texts
members sets.Lines = kinds.Line ∷ []
members sets.WithAttributes = with_attributes
members sets.Macros = kinds.Macro ∷ []

-- membership of a kind in a list
abbrev pub is_among : List Kind → Kind → Bool
is_among kinds kind = list_any (λ member. kind_number member == kind_number kind) kinds

abbrev pub is_member : Kinds → Kind → Bool
is_member kinds kind = is_among (members kinds) kind

-- ---- the kinds that a reference in an object of a kind allows, and whether it allows NULL

abbrev pub allowed : Kind → Place → Kinds
allowed kind places.ActiveMask = sets.Masks
allowed kind places.SoftKeyMask = sets.SoftKeyMasks
allowed kinds.WorkingSet (places.Child index) = sets.DrawnInWorkingSet
allowed kind (places.Child index) = sets.Drawn
allowed kind (places.Key index) = sets.Keys
allowed kind places.Font = sets.Fonts
allowed kind places.InputAttributes = sets.InputAttributes
allowed kinds.InputString places.Variable = sets.StringVariables
allowed kinds.OutputString places.Variable = sets.StringVariables
allowed kind places.Variable = sets.NumberVariables
allowed kind places.TargetVariable = sets.NumberVariables
allowed kind (places.Item index) = sets.Drawn
allowed kind places.LineAttributes = sets.LineAttributes
allowed kind places.Fill = sets.FillAttributes
allowed kind places.Pattern = sets.Pictures
allowed kind places.Value = sets.AllButPointers

abbrev pub may_be_null : Place → Bool
may_be_null (places.Child index) = false
may_be_null _ = true

-- ---- the slots of an object

-- the slot of a field and the ID in it
abbrev pub slot : Kind → Place → ℕ → Slot
slot kind place id = record { place = place; id = id; null = may_be_null place; kinds = allowed kind place }

-- the slots of a list of IDs, with their indices
abbrev pub slots_listed : Kind → (ℕ → Place) → ℕ → List ℕ → List Slot
slots_listed kind place index [] = []
slots_listed kind place index (id ∷ ids) = slot kind (place index) id ∷ slots_listed kind place (suc index) ids

abbrev pub children_of : Kind → List Child → List Slot
children_of kind children = slots_listed kind places.Child 0 (map (λ c. c.id) children)

-- The slots of an object: the references in its fields, then those in its list entries, in order.
abbrev pub slots_of : {B : Type 0} → Object B → List Slot
slots_of (objects.WorkingSet o) = slot kinds.WorkingSet places.ActiveMask o.active_mask ∷ children_of kinds.WorkingSet o.children
slots_of (objects.DataMask o) = slot kinds.DataMask places.SoftKeyMask o.soft_key_mask ∷ children_of kinds.DataMask o.children
slots_of (objects.AlarmMask o) = slot kinds.AlarmMask places.SoftKeyMask o.soft_key_mask ∷ children_of kinds.AlarmMask o.children
slots_of (objects.Container o) = children_of kinds.Container o.children
slots_of (objects.SoftKeyMask o) = slots_listed kinds.SoftKeyMask places.Key 0 o.keys
slots_of (objects.Key o) = children_of kinds.Key o.children
slots_of (objects.Button o) = children_of kinds.Button o.children
slots_of (objects.InputBoolean o) = slot kinds.InputBoolean places.Font o.font ∷ slot kinds.InputBoolean places.Variable o.variable ∷ []
slots_of (objects.InputString o) =
    slot kinds.InputString places.Font o.font ∷ slot kinds.InputString places.InputAttributes o.input_attributes
    ∷ slot kinds.InputString places.Variable o.variable ∷ []
slots_of (objects.InputNumber o) = slot kinds.InputNumber places.Font o.font ∷ slot kinds.InputNumber places.Variable o.variable ∷ []
slots_of (objects.InputList o) = slot kinds.InputList places.Variable o.variable ∷ slots_listed kinds.InputList places.Item 0 o.items
slots_of (objects.OutputString o) = slot kinds.OutputString places.Font o.font ∷ slot kinds.OutputString places.Variable o.variable ∷ []
slots_of (objects.OutputNumber o) = slot kinds.OutputNumber places.Font o.font ∷ slot kinds.OutputNumber places.Variable o.variable ∷ []
slots_of (objects.Line o) = slot kinds.Line places.LineAttributes o.line_attributes ∷ []
slots_of (objects.Rectangle o) = slot kinds.Rectangle places.LineAttributes o.line_attributes ∷ slot kinds.Rectangle places.Fill o.fill ∷ []
slots_of (objects.Ellipse o) = slot kinds.Ellipse places.LineAttributes o.line_attributes ∷ slot kinds.Ellipse places.Fill o.fill ∷ []
slots_of (objects.Polygon o) = slot kinds.Polygon places.LineAttributes o.line_attributes ∷ slot kinds.Polygon places.Fill o.fill ∷ []
slots_of (objects.Meter o) = slot kinds.Meter places.Variable o.variable ∷ []
slots_of (objects.LinearBar o) = slot kinds.LinearBar places.Variable o.variable ∷ slot kinds.LinearBar places.TargetVariable o.target_variable ∷ []
slots_of (objects.ArchedBar o) = slot kinds.ArchedBar places.Variable o.variable ∷ slot kinds.ArchedBar places.TargetVariable o.target_variable ∷ []
slots_of (objects.Picture o) = []
slots_of (objects.NumberVariable o) = []
slots_of (objects.StringVariable o) = []
slots_of (objects.Font o) = []
slots_of (objects.LineAttributes o) = []
slots_of (objects.FillAttributes o) = slot kinds.FillAttributes places.Pattern o.pattern ∷ []
slots_of (objects.InputAttributes o) = []
slots_of (objects.ObjectPointer o) = slot kinds.ObjectPointer places.Value o.value ∷ []
slots_of (objects.Macro o) = []
