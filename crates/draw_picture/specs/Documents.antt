-- The picture of a mask with its soft keys (docs/PROFILE.md, "The picture of a mask").
use Rattle.std.specs.Prelude.{◌≡◌, ℕ, ℤ, suc, pos, ◌+◌, ◌-◌, ◌*◌, ◌/◌, ◌%◌, min, max, List, [], ◌∷◌, ◌++◌, length, Option, Some}
use Rattle.std.specs.FinMap as finite
use Rattle.vt_kinds.specs.declared.entries.Child.{Child}
use Rattle.vt_kinds.specs.declared.object.Object.TheVariants as objects
use Rattle.vt_kinds.specs.Records.{Seen}
use Rattle.vt_stores.specs.Stores.{ObjectMap}
use Rattle.vt_chains.specs.Limits.{terminal}
use Rattle.vt_shown.specs.ShownElements.{soft_keys}
use Rattle.vt_layout.specs.Drawings.{mask_entries}
use Rattle.check_needs.specs.declared.sizes.Sizes.{Sizes}
use Rattle.draw_svg.specs.declared.attribute.Attribute.{Attribute}
use Rattle.draw_svg.specs.declared.attribute.Attribute.TheVariants as attributes
use Rattle.draw_svg.specs.declared.attribute.Flag.TheVariants as flags
use Rattle.draw_svg.specs.declared.attribute.Paint.{Paint}
use Rattle.draw_svg.specs.declared.attribute.Paint.TheVariants as paints
use Rattle.draw_svg.specs.declared.element.Element.TheVariants as elements
use Rattle.draw_svg.specs.Elements.{closed, emptied, opened}
use Rattle.draw_svg.specs.Images.{AppendsImages}
use Rattle.draw_picture.specs.declared.walk.Tag.{Tag}
use Rattle.draw_picture.specs.Marks.{Marks, marks, cut, count}
use Rattle.draw_picture.specs.Pictures.{with_pictures, with_tags}
use Rattle.draw_picture.specs.Tags.{tags_of}

-- the most elements of a picture
abbrev pub most_marks : ℕ
most_marks = 2000

-- the pixels between a mask and its keys, and between keys
abbrev pub gap : ℕ
gap = 8

-- ---- the places of keys

-- the keys of a column, as many as fit beside a mask, at least one
abbrev pub keys_in_column : Sizes → ℕ
keys_in_column sizes = max 1 ((sizes.mask.height + gap) / (sizes.key.height + gap))

-- a distance, as far as an entry can have it
abbrev pub reach : ℕ → ℤ
reach n = pos (min n 32767)

-- a key by its index: down a column, and then down the next one to the right
abbrev pub key_place : Sizes → ℕ → ℕ → Child
key_place sizes i id = record {
  id = id;
  x = reach (i / keys_in_column sizes * (sizes.key.width + gap));
  y = reach (i % keys_in_column sizes * (sizes.key.height + gap));
}

-- keys from an index on
abbrev pub key_places : Sizes → ℕ → List ℕ → List Child
key_places sizes i [] = []
key_places sizes i (id ∷ ids) = key_place sizes i id ∷ key_places sizes (suc i) ids

-- ---- the whole picture

-- the width of a picture with some keys, as far as it is a number of 32 bits
abbrev pub width_of : Sizes → ℕ → ℕ
width_of sizes keys = min (sizes.mask.width + (keys + keys_in_column sizes - 1) / keys_in_column sizes * (sizes.key.width + gap)) 0xFFFFFFFF

-- the width and the height of the picture of a mask
abbrev pub picture_size : Sizes → ObjectMap → ℕ → ℕ × ℕ
picture_size sizes store mask = (width_of sizes (length (soft_keys store mask)), sizes.mask.height)

abbrev pub background : Option Seen → Paint
background (Some (objects.WorkingSet o)) = paints.Colour o.colour
background (Some (objects.DataMask o)) = paints.Colour o.colour
background (Some (objects.AlarmMask o)) = paints.Colour o.colour
background _ = paints.None

-- what the tag of a picture of a width and a height says
abbrev pub picture_attributes : ℕ × ℕ → List Attribute
picture_attributes size =
    attributes.Flag flags.NameSpace ∷ attributes.Width size.0 ∷ attributes.Height size.1 ∷ attributes.Coordinates size.0 size.1
    ∷ attributes.Flag flags.Font ∷ []

-- the tag of a picture of a width and a height, and a background as high as the picture, at its left edge
abbrev pub beginning : ℕ × ℕ → ℕ → Paint → List ℕ
beginning size wide paint =
    opened elements.Svg (picture_attributes size)
    ++ emptied elements.Rect (attributes.Width wide ∷ attributes.Height size.1 ∷ attributes.Fill paint ∷ [])

-- a text with elements within an area after it
abbrev pub with_area : Sizes → ObjectMap → List Attribute → List Tag → List ℕ → List ℕ
with_area sizes store area tags text = with_tags sizes store (text ++ opened elements.Svg area) tags ++ closed elements.Svg

abbrev pub mask_area : Sizes → List Attribute
mask_area sizes = attributes.Width sizes.mask.width ∷ attributes.Height sizes.mask.height ∷ []

abbrev pub keys_area : Sizes → List Attribute
keys_area sizes = attributes.Left (sizes.mask.width + gap) ∷ []

abbrev pub mask_marks : ObjectMap → ℕ → Marks
mask_marks store mask = cut most_marks (marks terminal.inclusions store (mask_entries store mask))

-- the keys, as many elements as fit after those of the mask
abbrev pub key_marks : Sizes → ObjectMap → ℕ → Marks
key_marks sizes store mask =
    cut (most_marks - count (mask_marks store mask)) (marks terminal.inclusions store (key_places sizes 0 (soft_keys store mask)))

abbrev pub mask_tags : ObjectMap → ℕ → List Tag
mask_tags store mask = tags_of (mask_marks store mask)

abbrev pub key_tags : Sizes → ObjectMap → ℕ → List Tag
key_tags sizes store mask = tags_of (key_marks sizes store mask)

-- the mask on its background, and its keys beside it
abbrev pub mask_and_keys : Sizes → ObjectMap → ℕ → List ℕ
mask_and_keys sizes store mask =
    with_area sizes store (keys_area sizes) (key_tags sizes store mask)
    (with_area sizes store (mask_area sizes) (mask_tags store mask)
    (beginning (picture_size sizes store mask) sizes.mask.width (background (finite.get store mask))))

-- the pictures that are shown, each once
abbrev pub pictures : Sizes → ObjectMap → ℕ → List ℕ
pictures sizes store mask = with_pictures store (with_pictures store [] (mask_tags store mask)) (key_tags sizes store mask)

-- A text goes on after what is drawn of a picture: with the images of these Picture objects, and then its end.
pub record IsEnded (store : ObjectMap) (pictures drawn text : List ℕ) : Type 0 where
  pub all : List ℕ
  pub images : AppendsImages store pictures drawn all
  pub whole : text ≡ all ++ closed elements.Svg

-- the mask and its keys, and the pictures to which their elements refer
abbrev pub IsPicture : Sizes → ObjectMap → ℕ → List ℕ → Type 0
IsPicture sizes store mask text = IsEnded store (pictures sizes store mask) (mask_and_keys sizes store mask) text
