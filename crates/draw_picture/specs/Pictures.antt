-- Elements as text, and the pictures to which they refer.
use Rattle.std.specs.Prelude.{◌≡◌, ⊤, ℕ, ◌*◌, max, Bool, nat_le, ◌==◌, ◌||◌, false, if◌then◌else◌, List, [], ◌∷◌, ◌++◌, length, Option, Some, None}
use Rattle.std.specs.FinMap as finite
use Rattle.vt_kinds.specs.declared.entries.Child.{Child}
use Rattle.vt_kinds.specs.Records.{Seen}
use Rattle.vt_stores.specs.Stores.{ObjectMap}
use Rattle.check_needs.specs.declared.sizes.Sizes.{Sizes}
use Rattle.draw_svg.specs.declared.attribute.Attribute.{Attribute}
use Rattle.draw_svg.specs.declared.attribute.Attribute.TheVariants as attributes
use Rattle.draw_svg.specs.declared.attribute.Flag.TheVariants as flags
use Rattle.draw_svg.specs.declared.element.Element.TheVariants as elements
use Rattle.draw_svg.specs.Elements.{opened, closed, text_of}
use Rattle.draw_picture.specs.declared.frame.Framing.{Framing}
use Rattle.draw_picture.specs.declared.frame.Framing.TheVariants as frames
use Rattle.draw_picture.specs.declared.walk.Tag.{Tag}
use Rattle.draw_picture.specs.declared.walk.Tag.TheVariants.{Open, Close}
use Rattle.draw_picture.specs.Frames.{frame_of}
use Rattle.draw_shapes.specs.Shapes.{shapes}
use Rattle.draw_shapes.specs.UsedPictures.{used_picture}

-- ---- elements

-- the size of an element; a fine one has coordinates in tenths of a pixel, and at least one pixel, without which nothing is shown
abbrev pub sized : Framing → List Attribute
sized frames.Whole = []
sized (frames.Clipped width height) = attributes.Width width ∷ attributes.Height height ∷ []
sized (frames.Fine area) =
    attributes.Width (max 1 area.width) ∷ attributes.Height (max 1 area.height) ∷ attributes.Coordinates (10 * max 1 area.width) (10 * max 1 area.height)
    ∷ attributes.Flag flags.Overflow ∷ []

-- the ID, the position and the size of an element
abbrev pub element_attributes : Child → Framing → List Attribute
element_attributes entry frame = attributes.ObjectId entry.id ∷ attributes.X entry.x ∷ attributes.Y entry.y ∷ sized frame

-- the most bytes of a text after which the shapes of another element are appended
abbrev pub most_bytes : ℕ
most_bytes = 8000000

abbrev pub shapes_if : Bool → Sizes → ObjectMap → ℕ → Seen → List ℕ
shapes_if has_room sizes store id object = if has_room then text_of (shapes sizes store id object) else []

-- the beginning of an element: its tag, and its own shapes if there is room for them
abbrev pub element_opening : Bool → Sizes → ObjectMap → Child → Option Seen → List ℕ
element_opening has_room sizes store entry None = opened elements.Svg (element_attributes entry frames.Whole)
element_opening has_room sizes store entry (Some object) =
    opened elements.Svg (element_attributes entry (frame_of sizes object)) ++ shapes_if has_room sizes store entry.id object

abbrev pub tag_text : Bool → Sizes → ObjectMap → Tag → List ℕ
tag_text has_room sizes store (Open entry) = element_opening has_room sizes store entry (finite.get store entry.id)
tag_text has_room sizes store Close = closed elements.Svg

-- a text with a tag after it
abbrev pub with_tag : Sizes → ObjectMap → List ℕ → Tag → List ℕ
with_tag sizes store text tag = text ++ tag_text (nat_le (length text) most_bytes) sizes store tag

abbrev pub with_tags : Sizes → ObjectMap → List ℕ → List Tag → List ℕ
with_tags sizes store text [] = text
with_tags sizes store text (tag ∷ tags) = with_tags sizes store (with_tag sizes store text tag) tags

-- ---- pictures

-- the picture to which the element of an ID refers
abbrev pub picture_of : ObjectMap → ℕ → Option Seen → Option ℕ
picture_of store id None = None
picture_of store id (Some object) = used_picture store id object

abbrev pub is_in : ℕ → List ℕ → Bool
is_in id [] = false
is_in id (other ∷ ids) = id == other || is_in id ids

-- no ID is there twice
abbrev pub EachOnce : List ℕ → Type 0
EachOnce [] = ⊤
EachOnce (id ∷ ids) = (is_in id ids ≡ false) × EachOnce ids

-- IDs with another after them, unless it is one of them
abbrev pub with_id : List ℕ → Option ℕ → List ℕ
with_id ids None = ids
with_id ids (Some id) = if is_in id ids then ids else ids ++ id ∷ []

abbrev pub with_picture : ObjectMap → List ℕ → Tag → List ℕ
with_picture store ids (Open entry) = with_id ids (picture_of store entry.id (finite.get store entry.id))
with_picture store ids Close = ids

-- the pictures to which tags refer, after others
abbrev pub with_pictures : ObjectMap → List ℕ → List Tag → List ℕ
with_pictures store ids [] = ids
with_pictures store ids (tag ∷ tags) = with_pictures store (with_picture store ids tag) tags
