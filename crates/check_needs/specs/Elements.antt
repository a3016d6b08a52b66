-- The children of masks, containers, buttons and keys, by the areas that they take (docs/PROFILE.md, "Warnings").
use Rattle.std.specs.Prelude.{◌≤◌, ℕ, zero, suc, pos, ◌*◌, ◌/◌, ◌+ℤ◌, int_lt, Bool, ◌||◌, List, [], ◌∷◌, ◌++◌, Option, Some, None}
use Rattle.std.specs.FinMap as finite
use Rattle.std.specs.Option.{option_map, option_to_list}
use Rattle.vt_kinds.specs.declared.entries.Child.{Child}
use Rattle.vt_kinds.specs.declared.object.Object.TheVariants as object
use Rattle.vt_kinds.specs.Records.{Seen}
use Rattle.vt_shown.specs.ShownElements.{resolves_to}
use Rattle.vt_stores.specs.Stores.{Objects, map_of}
use Rattle.check_needs.specs.declared.elements.Extent.{Extent}
use Rattle.check_needs.specs.declared.sizes.Area.{Area}
use Rattle.check_needs.specs.declared.sizes.Sizes.{Sizes}
use Rattle.check_needs.specs.declared.warning.PlacedElement.{PlacedElement}

-- ---- the area that an object takes

abbrev pub extent : ℕ → ℕ → Extent
extent width height = record { width = width; height = height }

-- The height of a picture: its image is scaled to its width.
abbrev pub scaled_height : ℕ → ℕ → ℕ → ℕ
scaled_height width actual_width zero = 0
scaled_height width zero actual_height = 0
scaled_height width (suc less) actual_height = actual_height * width / suc less

-- the area that a drawn object takes; None for a kind without a size
abbrev pub extent_of : Seen → Option Extent
extent_of (object.Container o) = Some (extent o.width o.height)
extent_of (object.Button o) = Some (extent o.width o.height)
extent_of (object.InputBoolean o) = Some (extent o.width o.width)
extent_of (object.InputString o) = Some (extent o.width o.height)
extent_of (object.InputNumber o) = Some (extent o.width o.height)
extent_of (object.InputList o) = Some (extent o.width o.height)
extent_of (object.OutputString o) = Some (extent o.width o.height)
extent_of (object.OutputNumber o) = Some (extent o.width o.height)
extent_of (object.Line o) = Some (extent o.width o.height)
extent_of (object.Rectangle o) = Some (extent o.width o.height)
extent_of (object.Ellipse o) = Some (extent o.width o.height)
extent_of (object.Polygon o) = Some (extent o.width o.height)
extent_of (object.Meter o) = Some (extent o.width o.width)
extent_of (object.LinearBar o) = Some (extent o.width o.height)
extent_of (object.ArchedBar o) = Some (extent o.width o.height)
extent_of (object.Picture o) = Some (extent o.width (scaled_height o.width o.actual_width o.actual_height))
extent_of o = None

abbrev pub extent_in : Option Seen → Option Extent
extent_in None = None
extent_in (Some o) = extent_of o

-- the greatest width and height: those of a picture of 65535 pixels scaled to 65535
abbrev pub IsSized : ℕ → ℕ → Type 0
IsSized width height = (width ≤ 4294836225) × (height ≤ 4294836225)

-- ---- the elements of an object

abbrev pub element_of : ℕ → ℕ → Child → ℕ → Extent → PlacedElement
element_of parent index child id extent =
    record { parent = parent; index = index; id = id; x = child.x; y = child.y; width = extent.width; height = extent.height }

abbrev pub element_for : Objects → ℕ → ℕ → Child → Option ℕ → Option PlacedElement
element_for objects parent index child None = None
element_for objects parent index child (Some id) = option_map (element_of parent index child id) (extent_in (finite.get (map_of objects) id))

-- the element of a child: of its object, or of the value of its pointer
abbrev pub element : Objects → ℕ → ℕ → Child → Option PlacedElement
element objects parent index child = element_for objects parent index child (resolves_to (map_of objects) child.id)

-- the elements of children, with their indices
abbrev pub elements_from : Objects → ℕ → ℕ → List Child → List PlacedElement
elements_from objects parent index [] = []
elements_from objects parent index (child ∷ children) =
    option_to_list (element objects parent index child) ++ elements_from objects parent (suc index) children

-- ---- the area in which an object shows its children, and the children

abbrev pub framed : Area → List Child → Option (Area × List Child)
framed area children = Some (area, children)

-- A mask has the terminal's area of a mask, a key that of a key, and a container and a button have their own.
abbrev pub frame_of : Sizes → Seen → Option (Area × List Child)
frame_of sizes (object.DataMask o) = framed sizes.mask o.children
frame_of sizes (object.AlarmMask o) = framed sizes.mask o.children
frame_of sizes (object.Key o) = framed sizes.key o.children
frame_of sizes (object.Container o) = framed (record { width = o.width; height = o.height }) o.children
frame_of sizes (object.Button o) = framed (record { width = o.width; height = o.height }) o.children
frame_of sizes o = None

-- an element begins or ends outside of an area
abbrev pub is_outside : Area → PlacedElement → Bool
is_outside area e =
    int_lt e.x (pos 0) || int_lt e.y (pos 0) || int_lt (pos area.width) (e.x +ℤ pos e.width)
    || int_lt (pos area.height) (e.y +ℤ pos e.height)
