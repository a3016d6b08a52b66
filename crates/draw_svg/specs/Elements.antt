-- Elements as text.
use Rattle.std.specs.Prelude.{ℕ, ℤ, pos, ◌+ℤ◌, Bool, if◌then◌else◌, List, [], ◌∷◌, ◌++◌, map, codes}
use Rattle.std.specs.Fmt.{decimal}
use Rattle.std.specs.List.{flat_map}
use Rattle.draw_svg.specs.declared.attribute.Attribute.{Attribute}
use Rattle.draw_svg.specs.declared.attribute.Attribute.TheVariants.{Fill, Left, ObjectId, PictureShown, Stroke, Top, X, Y}
use Rattle.draw_svg.specs.declared.attribute.Paint.{Paint}
use Rattle.draw_svg.specs.declared.attribute.Paint.TheVariants.{Pattern}
use Rattle.draw_svg.specs.declared.element.Element.{Element}
use Rattle.draw_svg.specs.declared.element.Element.TheVariants as elements
use Rattle.draw_svg.specs.declared.points.SvgPoint.{SvgPoint}
use Rattle.draw_svg.specs.Attributes.{attribute_text}
use Rattle.draw_svg.specs.Characters.{escaped}

abbrev pub name : Element → List ℕ
name elements.Svg = codes "svg"
name elements.Rect = codes "rect"
name elements.Ellipse = codes "ellipse"
name elements.Polyline = codes "polyline"
name elements.Polygon = codes "polygon"
name elements.Text = codes "text"
name elements.Symbol = codes "symbol"
name elements.Use = codes "use"
name elements.Pattern = codes "pattern"

unfoldable pub begun : Element → List Attribute → List ℕ
begun element attributes = codes "<" ++ (name element ++ flat_map attribute_text attributes)

abbrev pub opened : Element → List Attribute → List ℕ
opened element attributes = begun element attributes ++ codes ">"

abbrev pub closed : Element → List ℕ
closed element = codes "</" ++ (name element ++ codes ">")

abbrev pub emptied : Element → List Attribute → List ℕ
emptied element attributes = begun element attributes ++ codes "/>"

-- x and y with a space after each
abbrev pub point_text : SvgPoint → List ℕ
point_text p = decimal p.x ++ (codes " " ++ (decimal p.y ++ codes " "))

-- lines along points
abbrev pub led_along : Element → List Attribute → List SvgPoint → List ℕ
led_along element attributes points = begun element attributes ++ (codes " points=\"" ++ (flat_map point_text points ++ codes "\"/>"))

-- ---- elements in their order

-- Characters, lines along points, an element with nothing in it, or one with others in it; the nodes after it follow.
pub data Nodes : Type 0 where
  None : Nodes
  Characters : List ℕ → Nodes → Nodes
  Along : Element → List Attribute → List SvgPoint → Nodes → Nodes
  Empty : Element → List Attribute → Nodes → Nodes
  Around : Element → List Attribute → Nodes → Nodes → Nodes

-- the text of nodes: each element is closed after all that is in it
abbrev pub text_of : Nodes → List ℕ
text_of None = []
text_of (Characters characters later) = flat_map escaped characters ++ text_of later
text_of (Along element attributes points later) = led_along element attributes points ++ text_of later
text_of (Empty element attributes later) = emptied element attributes ++ text_of later
text_of (Around element attributes inside later) = opened element attributes ++ (text_of inside ++ (closed element ++ text_of later))

-- nodes, and others after them
abbrev pub followed : Nodes → Nodes → Nodes
followed None later = later
followed (Characters characters rest) later = Characters characters (followed rest later)
followed (Along element attributes points rest) later = Along element attributes points (followed rest later)
followed (Empty element attributes rest) later = Empty element attributes (followed rest later)
followed (Around element attributes inside rest) later = Around element attributes inside (followed rest later)

-- nodes that are there or not
abbrev pub when : Bool → Nodes → Nodes
when is_there nodes = if is_there then nodes else None

-- ---- IDs in attributes

-- what attributes of nodes hold, in their order
abbrev pub gathered : (Attribute → List ℕ) → Nodes → List ℕ
gathered held None = []
gathered held (Characters characters later) = gathered held later
gathered held (Along element attributes points later) = flat_map held attributes ++ gathered held later
gathered held (Empty element attributes later) = flat_map held attributes ++ gathered held later
gathered held (Around element attributes inside later) = flat_map held attributes ++ (gathered held inside ++ gathered held later)

abbrev pub object_id : Attribute → List ℕ
object_id (ObjectId id) = id ∷ []
object_id _ = []

-- the IDs of objects
abbrev pub object_ids : Nodes → List ℕ
object_ids nodes = gathered object_id nodes

abbrev pub pattern_id : Paint → List ℕ
pattern_id (Pattern id) = id ∷ []
pattern_id _ = []

abbrev pub reference : Attribute → List ℕ
reference (PictureShown id) = id ∷ []
reference (Fill paint) = pattern_id paint
reference (Stroke paint) = pattern_id paint
reference _ = []

-- the IDs of pictures that are shown or fill something
abbrev pub references : Nodes → List ℕ
references nodes = gathered reference nodes

-- ---- the places of objects

-- the distance of an element from the left and from the upper edge of the area around; 0 without an attribute for it
abbrev pub left_of : List Attribute → ℤ
left_of [] = pos 0
left_of (X n ∷ attributes) = n
left_of (Left n ∷ attributes) = pos n
left_of (_ ∷ attributes) = left_of attributes

abbrev pub top_of : List Attribute → ℤ
top_of [] = pos 0
top_of (Y n ∷ attributes) = n
top_of (Top n ∷ attributes) = pos n
top_of (_ ∷ attributes) = top_of attributes

-- the IDs of objects around others, with their places from a place: that of an element is added to that of the one around it
abbrev pub spots_in : ℤ → ℤ → Nodes → List (ℕ × ℤ × ℤ)
spots_in x y None = []
spots_in x y (Characters characters later) = spots_in x y later
spots_in x y (Along element attributes points later) = spots_in x y later
spots_in x y (Empty element attributes later) = spots_in x y later
spots_in x y (Around element attributes inside later) =
    map (λ id. (id, x +ℤ left_of attributes, y +ℤ top_of attributes)) (flat_map object_id attributes)
    ++ (spots_in (x +ℤ left_of attributes) (y +ℤ top_of attributes) inside ++ spots_in x y later)
