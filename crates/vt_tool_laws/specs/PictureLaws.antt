-- What pictures show, beside the drawings of their masks (docs/PROFILE.md, "The drawing").
use Rattle.std.specs.Prelude.{◌≡◌, ℕ, pos, ◌+◌, true, List, [], ◌∷◌, ◌++◌, map, take, length, Some}
use Rattle.std.specs.FinMap as finite
use Rattle.std.specs.List.{AllByRecursion}
use Rattle.vt_kinds.specs.declared.entries.Child.{Child}
use Rattle.vt_kinds.specs.declared.object.Object.TheVariants as objects
use Rattle.vt_kinds.specs.declared.pictures.Picture.{Picture}
use Rattle.vt_kinds.specs.Records.{Seen}
use Rattle.vt_stores.specs.Stores.{ObjectMap}
use Rattle.vt_chains.specs.Limits.{terminal}
use Rattle.vt_layout.specs.Drawings.{mask_entries, origin}
use Rattle.vt_layout.specs.Walks.{elements, drawing}
use Rattle.check_needs.specs.declared.sizes.Sizes.{Sizes}
use Rattle.draw_svg.specs.Elements.{Nodes, references, spots_in, text_of}
use Rattle.draw_shapes.specs.Shapes.{shapes}
use Rattle.draw_shapes.specs.UsedPictures.{used_picture}
use Rattle.draw_picture.specs.Documents.{IsPicture, gap, most_marks, mask_marks, key_marks, pictures}
use Rattle.draw_picture.specs.Listings.{elements_of}
use Rattle.draw_picture.specs.Marks.{Marks, marks, count, cut, ids, spots}
use Rattle.draw_picture.specs.Pictures.{EachOnce, is_in, picture_of}

-- The marks of entries are the elements of their drawing, in its order and at its places.
abbrev pub MarksAreDrawn : Type 0
MarksAreDrawn = (store : ObjectMap) (depth : ℕ) (entries : List Child) (from : _)
    → spots from.x from.y (marks depth store entries) ≡ map (λ e. (e.id, e.at.x, e.at.y)) (elements depth store entries from)

-- The elements of a mask are at the places of its drawing, the first 2,000.
abbrev pub ElementsAreInPlace : Type 0
ElementsAreInPlace = (store : ObjectMap) (mask : ℕ)
    → spots (pos 0) (pos 0) (mask_marks store mask) ≡ take most_marks (map (λ e. (e.id, e.at.x, e.at.y)) (elements terminal.inclusions store (mask_entries store mask) origin))

-- The first marks have the first IDs.
abbrev pub CutMarksAreFirst : Type 0
CutMarksAreFirst = (n : ℕ) (m : Marks) → (ids (cut n m) ≡ take n (ids m)) × (count (cut n m) ≡ length (ids (cut n m)))

-- The elements of a mask and of its keys have the IDs of their drawing, in its order, the first 2,000.
abbrev pub ElementsAreTheDrawing : Type 0
ElementsAreTheDrawing = (sizes : Sizes) (store : ObjectMap) (mask : ℕ)
    → ids (mask_marks store mask) ++ ids (key_marks sizes store mask) ≡ take most_marks (map (λ e. e.id) (drawing store mask))

-- A picture is the text of elements within each other, each closed after all that is in it, and shows the drawing of its mask. The objects
-- in its text are those of the drawing, in its order, the first 2,000: those of the mask at the places of the drawing, and then the keys,
-- with what is in them, from the place of the first key.
abbrev pub PicturesShowTheDrawing : Type 0
PicturesShowTheDrawing = (sizes : Sizes) (store : ObjectMap) (mask : ℕ) (text : List ℕ) → IsPicture sizes store mask text
    → (nodes : Nodes) × (text ≡ text_of nodes)
    × (spots_in (pos 0) (pos 0) nodes
    ≡ take most_marks (map (λ e. (e.id, e.at.x, e.at.y)) (elements terminal.inclusions store (mask_entries store mask) origin))
    ++ spots (pos (sizes.mask.width + gap)) (pos 0) (key_marks sizes store mask))
    × (map (λ spot. spot.0) (spots_in (pos 0) (pos 0) nodes) ≡ take most_marks (map (λ e. e.id) (drawing store mask)))

-- The list of elements has the objects of the picture, in its order and at their places.
abbrev pub ListsShowThePicture : Type 0
ListsShowThePicture = (sizes : Sizes) (store : ObjectMap) (mask : ℕ)
    → map (λ e. (e.id, e.at.x, e.at.y)) (elements_of sizes store mask)
    ≡ spots (pos 0) (pos 0) (mask_marks store mask) ++ spots (pos (sizes.mask.width + gap)) (pos 0) (key_marks sizes store mask)

-- Each Picture object to which an element of a picture refers is written, and none is written twice.
pub record PicturesAreWrittenOnce : Type 0 where
  pub once : (sizes : Sizes) (store : ObjectMap) (mask : ℕ) → EachOnce (pictures sizes store mask)
  pub written : (sizes : Sizes) (store : ObjectMap) (mask id picture : ℕ) → is_in id (ids (mask_marks store mask) ++ ids (key_marks sizes store mask)) ≡ true
      → picture_of store id (finite.get store id) ≡ Some picture → is_in picture (pictures sizes store mask) ≡ true

-- The shapes of an object refer to no picture but the one that `used_picture` gives, and a Picture object refers to itself, once.
pub record ShapesReferToTheirPicture : Type 0 where
  pub right : (sizes : Sizes) (store : ObjectMap) (id : ℕ) (object : Seen)
      → AllByRecursion (λ picture. used_picture store id object ≡ Some picture) (references (shapes sizes store id object))
  pub shown : (sizes : Sizes) (store : ObjectMap) (id : ℕ) (p : Picture (List ℕ)) → references (shapes sizes store id (objects.Picture p)) ≡ id ∷ []
