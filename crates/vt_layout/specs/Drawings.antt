-- The drawing of a mask: the elements at all paths, in their order (docs/PROFILE.md, "The drawing").
use Rattle.std.specs.Prelude.{◌≡◌, ℕ, pos, ◌+ℤ◌, ◌≤◌, ◌<◌, false, ◌==◌, if◌then◌else◌, List, [], ◌∷◌, ◌++◌, map, slice_get, Option, Some, None, Contains, ◌↔◌, ◌⊎◌, length}
use Rattle.std.specs.List.{AllByRecursion}
use Rattle.std.specs.FinMap as finite
use Rattle.vt_kinds.specs.declared.entries.Child.{Child}
use Rattle.vt_kinds.specs.declared.kind.Kind.TheVariants as kinds
use Rattle.vt_kinds.specs.declared.object.Object.TheVariants as objects
use Rattle.vt_kinds.specs.declared.slot.Slot.{Slot}
use Rattle.vt_kinds.specs.Ids.{null_id}
use Rattle.vt_kinds.specs.Records.{Seen}
use Rattle.vt_kinds.specs.References.{slots_of}
use Rattle.vt_stores.specs.Stores.{ObjectMap}
use Rattle.vt_chains.specs.Depths.{inclusions_of}
use Rattle.vt_chains.specs.Inclusions.{IsChain}
use Rattle.vt_chains.specs.Limits.{terminal}
use Rattle.vt_layout.specs.declared.element.Element.{Element}
use Rattle.vt_layout.specs.declared.element.Position.{Position}
use Rattle.vt_effects.specs.Effects.{kind_in}
use Rattle.vt_shown.specs.ShownElements.{resolves_to, is_element, number_shown, item_of, soft_key_mask_of, soft_keys, drawn_in, IsShown}
use Rattle.vt_effects.specs.Soundness.{IsSound, is_in_order}

-- ---- lists of entries

-- the upper left corner of a mask or of a key
abbrev pub origin : Position
origin = record { x = pos 0; y = pos 0 }

abbrev pub shifted : Position → Child → Position
shifted from entry = record { x = from.x +ℤ entry.x; y = from.y +ℤ entry.y }

-- an entry at the position of its list
abbrev pub unmoved : ℕ → Child
unmoved id = record { id = id; x = pos 0; y = pos 0 }

-- the entries that an object draws within itself: its children, or the current item of an input list as one entry; none
-- for a hidden container
abbrev pub entries_in : ObjectMap → Option Seen → List Child
entries_in store (Some (objects.WorkingSet o)) = o.children
entries_in store (Some (objects.DataMask o)) = o.children
entries_in store (Some (objects.AlarmMask o)) = o.children
entries_in store (Some (objects.Container o)) = if o.hidden == 0 then o.children else []
entries_in store (Some (objects.Key o)) = o.children
entries_in store (Some (objects.Button o)) = o.children
entries_in store (Some (objects.InputList o)) = map unmoved (item_of o.items (number_shown store o.variable o.value))
entries_in store _ = []

-- the entries of a mask
abbrev pub mask_entries : ObjectMap → ℕ → List Child
mask_entries store mask = entries_in store (finite.get store mask)

abbrev pub key_entries : ObjectMap → ℕ → List Child
key_entries store mask = map unmoved (soft_keys store mask)

-- ---- paths

-- the element of an ID; NULL, a pointer and a hidden container are no elements
abbrev pub element : ObjectMap → ℕ → Position → Option ℕ → Option Element
element store place at None = None
element store place at (Some id) = if is_element (finite.get store id) then Some (record { place = place; id = id; at = at }) else None

-- the element of an entry at an index, for a pointer that of its value
abbrev pub entered : ObjectMap → Position → ℕ → Option Child → Option Element
entered store from place None = None
entered store from place (Some entry) = element store place (shifted from entry) (resolves_to store entry.id)

-- the element at the end of indices, each into the entries of the element before it
abbrev pub along : ObjectMap → List ℕ → Option Element → Option Element
along store path None = None
along store [] (Some e) = Some e
along store (place ∷ path) (Some e) = along store path (entered store e.at place (slice_get (entries_in store (finite.get store e.id)) place))

-- the element at a path from a list of entries: an index into the list, then indices into the elements on the way
abbrev pub at_path : ObjectMap → List Child → Position → List ℕ → Option Element
at_path store entries from [] = None
at_path store entries from (place ∷ path) = along store path (entered store from place (slice_get entries place))

-- ---- the drawing

-- an element with its path
pub record Placed : Type 0 where
  pub path : List ℕ
  pub element : Element

-- a path is before another in lexicographic order
abbrev pub IsBefore : List ℕ → List ℕ → Type 0
IsBefore path [] = ⊥
IsBefore [] (place ∷ path) = Unit {0}
IsBefore (place ∷ path) (other ∷ others) = (place < other) ⊎ ((place ≡ other) × IsBefore path others)

-- each element is before all later ones
abbrev pub IsInDrawingOrder : List Placed → Type 0
IsInDrawingOrder [] = Unit {0}
IsInDrawingOrder (p ∷ ps) = AllByRecursion (λ q. IsBefore p.path q.path) ps × IsInDrawingOrder ps

-- the elements at all paths from a list of entries, in lexicographic order
pub record AreAll (store : ObjectMap) (entries : List Child) (drawn : List Placed) : Type 0 where
  pub in_order : IsInDrawingOrder drawn
  pub are : (p : Placed) → Contains drawn p ↔ (at_path store entries origin p.path ≡ Some p.element)

-- The drawing of a mask: the elements of its own entries, and then those of its soft key mask.
pub record IsDrawing (store : ObjectMap) (mask : ℕ) (drawing : List Placed) : Type 0 where
  pub in_mask : List Placed
  pub of_keys : List Placed
  pub parts : drawing ≡ in_mask ++ of_keys
  pub mask_drawn : AreAll store (mask_entries store mask) in_mask
  pub keys_drawn : AreAll store (key_entries store mask) of_keys

-- ---- properties of drawings

-- The drawing of a mask is unique. It exists in a store in order without an object with the ID NULL.
pub record DrawingsAreOne : Type 0 where
  pub there : (store : ObjectMap) (mask : ℕ) → IsSound store → finite.get store null_id ≡ None → (drawing : List Placed) × IsDrawing store mask drawing
  pub one : (store : ObjectMap) (mask : ℕ) (one other : List Placed) → IsDrawing store mask one → IsDrawing store mask other → one ≡ other

-- The objects shown are the elements of the drawing, however long.
abbrev pub ShownAreDrawn : Type 0
ShownAreDrawn = (store : ObjectMap) (mask : ℕ) (drawing : List Placed) → IsDrawing store mask drawing
    → (id : ℕ) → IsShown store mask id ↔ ((p : Placed) × Contains drawing p × (p.element.id ≡ id))

-- the ID is in a drawn list
abbrev pub IsListed : ObjectMap → ℕ → ℕ → Type 0
IsListed store mask id =
    Contains (drawn_in store (finite.get store mask)) id ⊎ Contains (soft_keys store mask) id
    ⊎ ((element : ℕ) × IsShown store mask element × Contains (drawn_in store (finite.get store element)) id)

-- the IDs met by a drawing: the working set, the mask, its soft key mask, the IDs in drawn lists, and the elements
abbrev pub IsMet : ObjectMap → ℕ → ℕ → Type 0
IsMet store mask id =
    (kind_in store id ≡ Some kinds.WorkingSet) ⊎ (id ≡ mask) ⊎ (id ≡ soft_key_mask_of (finite.get store mask)) ⊎ IsListed store mask id ⊎ IsShown store mask id

-- A drawing is stuck at a reference not in order: to no object or to one of a wrong kind, through a pointer too.
pub record Sticks (store : ObjectMap) (mask : ℕ) : Type 0 where
  pub id : ℕ
  pub met : IsMet store mask id
  pub object : Seen
  pub there : finite.get store id ≡ Some object
  pub slot : Slot
  pub among : Contains (slots_of object) slot
  pub wrong : is_in_order store slot ≡ false

-- No drawing of a store in order gets stuck.
abbrev pub DrawingsNeverStick : Type 0
DrawingsNeverStick = (store : ObjectMap) (mask : ℕ) → IsSound store → Sticks store mask → ⊥

-- ---- the inclusions on a path

-- a listed ID, followed by its value if it is a pointer
abbrev pub led_through : ℕ → Option Seen → List ℕ
led_through id (Some (objects.ObjectPointer o)) = id ∷ o.value ∷ []
led_through id _ = id ∷ []

abbrev pub through : ObjectMap → Option Child → List ℕ
through store None = []
through store (Some entry) = led_through entry.id (finite.get store entry.id)

-- the IDs along indices below an element
abbrev pub passed_below : ObjectMap → List ℕ → Option Element → List ℕ
passed_below store path None = []
passed_below store [] (Some e) = []
passed_below store (place ∷ path) (Some e) =
    through store (slice_get (entries_in store (finite.get store e.id)) place)
    ++ passed_below store path (entered store e.at place (slice_get (entries_in store (finite.get store e.id)) place))

-- the IDs along a path from a list of entries
abbrev pub passed : ObjectMap → List Child → List ℕ → List ℕ
passed store entries [] = []
passed store entries (place ∷ path) =
    through store (slice_get entries place) ++ passed_below store path (entered store origin place (slice_get entries place))

-- Each ID includes the next, from one object to another, with no more inclusions than the terminal allows.
pub record IsChained (store : ObjectMap) (from : ℕ) (passed : List ℕ) (to : ℕ) : Type 0 where
  pub is : IsChain (inclusions_of store) (from ∷ passed)
  pub last : slice_get (from ∷ passed) (length passed) ≡ Some to
  pub short : length passed ≤ terminal.inclusions

-- The path to an element of a store in order follows a chain of inclusions, from the mask or its soft key mask.
pub record PathsAreChained : Type 0 where
  pub in_mask : (store : ObjectMap) (mask : ℕ) (path : List ℕ) (e : Element) → IsSound store → finite.get store null_id ≡ None
      → at_path store (mask_entries store mask) origin path ≡ Some e → IsChained store mask (passed store (mask_entries store mask) path) e.id
  pub of_keys : (store : ObjectMap) (mask : ℕ) (path : List ℕ) (e : Element) → IsSound store → finite.get store null_id ≡ None
      → at_path store (key_entries store mask) origin path ≡ Some e
      → IsChained store (soft_key_mask_of (finite.get store mask)) (passed store (key_entries store mask) path) e.id
