-- Picture objects, each written once (docs/PROFILE.md, "Picture objects").
use Rattle.std.specs.Prelude.{◌≡◌, ℕ, ◌*◌, List, [], ◌∷◌, ◌++◌, Option, Some, None}
use Rattle.std.specs.FinMap as finite
use Rattle.vt_kinds.specs.declared.object.Object.TheVariants as objects
use Rattle.vt_kinds.specs.declared.pictures.Picture.{Picture}
use Rattle.vt_kinds.specs.Records.{Seen}
use Rattle.draw_svg.specs.declared.run.Run.{Run}
use Rattle.draw_svg.specs.Formats.{format_of}
use Rattle.draw_svg.specs.Rasters.{AreFewRuns, IsRaster}
use Rattle.vt_stores.specs.Stores.{ObjectMap}
use Rattle.draw_svg.specs.declared.attribute.Attribute.{Attribute}
use Rattle.draw_svg.specs.declared.attribute.Attribute.TheVariants as attributes
use Rattle.draw_svg.specs.declared.attribute.Flag.TheVariants as flags
use Rattle.draw_svg.specs.declared.attribute.Paint.TheVariants as paints
use Rattle.draw_svg.specs.declared.element.Element.TheVariants as elements
use Rattle.draw_svg.specs.Elements.{closed, emptied, opened}
use Rattle.draw_svg.specs.Strokes.{with_pixels}

abbrev pub symbol_attributes : ℕ → Picture (List ℕ) → List Attribute
symbol_attributes id p =
    attributes.PictureId id ∷ attributes.Coordinates (2 * p.actual_width) (2 * p.actual_height) ∷ attributes.Flag flags.StretchedPicture
    ∷ attributes.Flag flags.Crisp ∷ attributes.Fill paints.None ∷ attributes.StrokeWidth 2 ∷ []

-- a text with a picture of the pixels of runs after it, to be shown elsewhere
abbrev pub with_symbol : ℕ → Picture (List ℕ) → List Run → List ℕ → List ℕ
with_symbol id p runs text =
    with_pixels p (format_of p.format) (text ++ opened elements.Symbol (symbol_attributes id p)) runs ++ closed elements.Symbol

-- as wide and high as its image, in tenths of a pixel
abbrev pub tile_attributes : ℕ → Picture (List ℕ) → List Attribute
tile_attributes id p =
    attributes.PatternId id ∷ attributes.Flag flags.PatternInPixels ∷ attributes.Width (10 * p.actual_width) ∷ attributes.Height (10 * p.actual_height) ∷ []

-- the picture as a pattern for fillings
abbrev pub tile : ℕ → Picture (List ℕ) → List ℕ
tile id p =
    opened elements.Pattern (tile_attributes id p)
    ++ (emptied elements.Use (attributes.PictureShown id ∷ attributes.Width (10 * p.actual_width) ∷ attributes.Height (10 * p.actual_height) ∷ [])
    ++ closed elements.Pattern)

-- ---- as text after another

abbrev pub picture_in : Option Seen → Option (Picture (List ℕ))
picture_in (Some (objects.Picture p)) = Some p
picture_in _ = None

-- A Picture is after a text, with its pixels and as a pattern. Without one the text stays.
abbrev pub AppendsImage : ℕ → Option (Picture (List ℕ)) → List ℕ → List ℕ → Type 0
AppendsImage id None old new = new ≡ old
AppendsImage id (Some p) old new = (runs : List Run) × IsRaster p runs × AreFewRuns p runs × (new ≡ with_symbol id p runs old ++ tile id p)

-- the pictures of some IDs are after a text, one after another
abbrev pub AppendsImages : ObjectMap → List ℕ → List ℕ → List ℕ → Type 0
AppendsImages store [] old new = new ≡ old
AppendsImages store (id ∷ ids) old new =
    (next : List ℕ) × AppendsImage id (picture_in (finite.get store id)) old next × AppendsImages store ids next new
