-- Picture objects after a text are nodes, with no objects.
use Rattle.std.proofs.Common.{ℕ, Bool, true, false, cond, List, [], ◌∷◌, ◌++◌, length, Option, Some, None, refl, sym, subst, ◌∙◌}
use Rattle.std.specs.Prelude.{nat_lt, ◌==◌, ◌||◌}
use Rattle.std.proofs.lemmas.List.{append_assoc}
use Rattle.std.specs.List.{flat_map}
use Rattle.std.specs.FinMap as finite
use Rattle.vt_kinds.specs.declared.pictures.Picture.{Picture}
use Rattle.vt_stores.specs.Stores.{ObjectMap}
use Rattle.draw_svg.specs.declared.format.PixelFormat.{PixelFormat}
use Rattle.draw_svg.specs.declared.run.Run.{Run}
use Rattle.draw_svg.specs.Formats.{format_of}
use Rattle.draw_svg.specs.declared.element.Element.TheVariants as elements
use Rattle.draw_svg.specs.declared.points.SvgPoint.{SvgPoint}
use Rattle.draw_svg.specs.Elements.{closed, emptied, opened}
use Rattle.draw_svg.specs.Elements as nodes
use Rattle.draw_svg.proofs.AppendedNodes.{AppendsNodes, along, around, empty, nowhere, one_more, same}
use Rattle.draw_svg.specs.declared.strokes.Stroke.{Stroke}
use Rattle.draw_svg.specs.Strokes.{drawn_stroke, is_transparent, line_of, most_bytes, run_text, stroke_text, strokes_of, with_pixels, with_run, with_runs}
use Rattle.draw_svg.specs.Images.{AppendsImage, AppendsImages, picture_in, symbol_attributes, tile, tile_attributes, with_symbol}

stroke_after : (p : Picture (List ℕ)) (line : List SvgPoint) (s : Stroke) (none : Bool) (text : List ℕ) → AppendsNodes nowhere text (text ++ cond none [] (drawn_stroke line s))
stroke_after p line s true text = record { nodes = nodes.None; is = refl; shown = λ x y. refl }
stroke_after p line s false text = along elements.Polyline _ line text

strokes_after : (p : Picture (List ℕ)) (line : List SvgPoint) (strokes : List Stroke) (text : List ℕ) → AppendsNodes nowhere text (text ++ flat_map (stroke_text p line) strokes)
strokes_after p line [] text = record { nodes = nodes.None; is = refl; shown = λ x y. refl }
strokes_after p line (s ∷ strokes) text =
    let next = text ++ stroke_text p line s in
    let all = one_more nowhere nowhere text next (next ++ flat_map (stroke_text p line) strokes) (stroke_after p line s (s.art == 0 || is_transparent p s.colour) text) (strokes_after p line strokes next) in
    subst (AppendsNodes nowhere text) (append_assoc text (stroke_text p line s) (flat_map (stroke_text p line) strokes)) all

run_after : (p : Picture (List ℕ)) (format : PixelFormat) (r : Run) (is_full : Bool) (text : List ℕ) → AppendsNodes nowhere text (cond is_full text (text ++ run_text p format r))
run_after p format r true text = same text
run_after p format r false text = strokes_after p (line_of format r) (strokes_of format r.byte) text

runs_after : (p : Picture (List ℕ)) (format : PixelFormat) (runs : List Run) (text : List ℕ) → AppendsNodes nowhere text (with_runs p format text runs)
runs_after p format [] text = same text
runs_after p format (r ∷ runs) text =
    let next = with_run p format text r in
    one_more nowhere nowhere text next (with_runs p format next runs) (run_after p format r (nat_lt most_bytes (length text)) text) (runs_after p format runs next)

pixels_after : (p : Picture (List ℕ)) (format : Option PixelFormat) (runs : List Run) (text : List ℕ) → AppendsNodes nowhere text (with_pixels p format text runs)
pixels_after p None runs text = same text
pixels_after p (Some format) runs text = runs_after p format runs text

tile_after : (id : ℕ) (p : Picture (List ℕ)) (text : List ℕ) → AppendsNodes nowhere text (text ++ tile id p)
tile_after id p text =
    let first = opened elements.Pattern (tile_attributes id p) in
    let used = empty elements.Use _ (text ++ first) in
    around elements.Pattern (tile_attributes id p) nowhere text ((text ++ first) ++ emptied elements.Use _) (text ++ tile id p) used
    (sym (append_assoc text first _) ∙ sym (append_assoc (text ++ first) (emptied elements.Use _) (closed elements.Pattern)))

image_after : (id : ℕ) (p : Option (Picture (List ℕ))) (old new : List ℕ) → AppendsImage id p old new → AppendsNodes nowhere old new
image_after id None old new is = subst (AppendsNodes nowhere old) (sym is) (same old)
image_after id (Some p) old new is =
    let runs = is.0 in
    let opening = old ++ opened elements.Symbol (symbol_attributes id p) in
    let shown = around elements.Symbol (symbol_attributes id p) nowhere old (with_pixels p (format_of p.format) opening runs) (with_symbol id p runs old)
    (pixels_after p (format_of p.format) runs opening) refl in
    let both = one_more nowhere nowhere old (with_symbol id p runs old) _ shown (tile_after id p (with_symbol id p runs old)) in
    subst (AppendsNodes nowhere old) (sym is.3) both

pub images_after : (store : ObjectMap) (ids : List ℕ) (old new : List ℕ) → AppendsImages store ids old new → AppendsNodes nowhere old new
images_after store [] old new is = subst (AppendsNodes nowhere old) (sym is) (same old)
images_after store (id ∷ ids) old new is =
    one_more nowhere nowhere old is.0 new (image_after id (picture_in (finite.get store id)) old is.0 is.1) (images_after store ids is.0 new is.2)
