-- The elements that a mask shows: its drawing, however long, and its soft keys (docs/PROFILE.md, "The drawing").
use Rattle.std.specs.Prelude.{◌≡◌, ℕ, Bool, true, false, ◌==◌, if◌then◌else◌, List, [], map, slice_get, Option, Some, None, Contains, IsTrue}
use Rattle.std.specs.Option.{option_map, option_to_list}
use Rattle.std.specs.FinMap as finite
use Rattle.vt_kinds.specs.declared.entries.Child.{Child}
use Rattle.vt_kinds.specs.declared.object.Object.TheVariants as objects
use Rattle.vt_kinds.specs.Ids.{null_id}
use Rattle.vt_kinds.specs.Records.{Seen}
use Rattle.vt_stores.specs.Stores.{ObjectMap}

-- ---- the object that a listed ID resolves to: for a pointer, its value

abbrev pub behind : ObjectMap → ℕ → Option Seen → Option ℕ
behind store id None = None
behind store id (Some (objects.ObjectPointer o)) = option_map (λ value. o.value) (finite.get store o.value)
behind store id (Some o) = Some id

-- the ID that a listed ID resolves to; None if the object is missing, as for NULL
abbrev pub resolves_to : ObjectMap → ℕ → Option ℕ
resolves_to store id = behind store id (finite.get store id)

-- whether an object is neither a pointer nor a hidden container
abbrev pub is_element : Option Seen → Bool
is_element (Some (objects.Container o)) = o.hidden == 0
is_element (Some (objects.ObjectPointer o)) = false
is_element (Some o) = true
is_element None = false

-- ---- the IDs that an object draws within itself

abbrev pub ids_in : List Child → List ℕ
ids_in children = map (λ child. child.id) children

-- the value of a number variable
abbrev pub number_in : Option Seen → Option ℕ
number_in (Some (objects.NumberVariable o)) = Some o.value
number_in _ = None

-- the number that an object shows: its variable's value, if it has a variable
abbrev pub number_shown : ObjectMap → ℕ → ℕ → Option ℕ
number_shown store variable own = if variable == null_id then Some own else number_in (finite.get store variable)

-- the item at an index, or none
abbrev pub item_of : List ℕ → Option ℕ → List ℕ
item_of items None = []
item_of items (Some index) = option_to_list (slice_get items index)

-- the children of an object, or the current item of an input list; none for a hidden container
abbrev pub drawn_in : ObjectMap → Option Seen → List ℕ
drawn_in store (Some (objects.WorkingSet o)) = ids_in o.children
drawn_in store (Some (objects.DataMask o)) = ids_in o.children
drawn_in store (Some (objects.AlarmMask o)) = ids_in o.children
drawn_in store (Some (objects.Container o)) = if o.hidden == 0 then ids_in o.children else []
drawn_in store (Some (objects.Key o)) = ids_in o.children
drawn_in store (Some (objects.Button o)) = ids_in o.children
drawn_in store (Some (objects.InputList o)) = item_of o.items (number_shown store o.variable o.value)
drawn_in store _ = []

-- ---- soft keys

-- the soft key mask of a mask; NULL for other objects
abbrev pub soft_key_mask_of : Option Seen → ℕ
soft_key_mask_of (Some (objects.DataMask o)) = o.soft_key_mask
soft_key_mask_of (Some (objects.AlarmMask o)) = o.soft_key_mask
soft_key_mask_of _ = null_id

abbrev pub keys_of : Option Seen → List ℕ
keys_of (Some (objects.SoftKeyMask o)) = o.keys
keys_of _ = []

-- the keys of the soft key mask of a mask
abbrev pub soft_keys : ObjectMap → ℕ → List ℕ
soft_keys store mask = keys_of (finite.get store (soft_key_mask_of (finite.get store mask)))

-- ---- shown elements

-- a listed ID resolves to an element
pub record IsResolved (store : ObjectMap) (ids : List ℕ) (element : ℕ) : Type 0 where
  pub id : ℕ
  pub among : Contains ids id
  pub resolves : resolves_to store id ≡ Some element
  pub is_element : IsTrue (is_element (finite.get store element))

-- an element is shown in the mask, among its soft keys, or within a shown element
pub data IsShown (store : ObjectMap) (mask : ℕ) : ℕ → Type 0 where
  InMask : (id : ℕ) → IsResolved store (drawn_in store (finite.get store mask)) id → IsShown store mask id
  AmongKeys : (id : ℕ) → IsResolved store (soft_keys store mask) id → IsShown store mask id
  Within : (id other : ℕ) → IsShown store mask id → IsResolved store (drawn_in store (finite.get store id)) other → IsShown store mask other
