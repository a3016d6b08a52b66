-- The list of elements has the marks of the picture, at their places.
use Rattle.std.proofs.Common.{◌≡◌, ℕ, ◌+◌, ◌-◌, ◌++◌, take, length, sym, ap, ap₂, ◌∙◌}
use Rattle.std.specs.Prelude.{ℤ, pos}
use Rattle.std.proofs.lemmas.List.{map-append, take-map}
use Rattle.vt_chains.specs.Limits.{terminal}
use Rattle.vt_shown.specs.ShownElements.{soft_keys}
use Rattle.vt_layout.specs.Drawings.{mask_entries}
use Rattle.draw_picture.specs.Documents.{gap, key_places, most_marks}
use Rattle.draw_picture.specs.Listings.{around_keys, around_mask, listed}
use Rattle.draw_picture.specs.Marks.{Marks, count, cut, marks, spots}
use Rattle.draw_picture.proofs.ListedSpots.{all_spots, spot}
use Rattle.vt_tool_laws.specs.PictureLaws.{ListsShowThePicture}
use Rattle.vt_tool_laws.proofs.FirstMarks.{take_append}
use Rattle.vt_tool_laws.proofs.PlacedMarks.{first_spots, spots_counted}

-- the first marks of two parts, at their places
first_of_two : (n : ℕ) (x y right top : ℤ) (m k : Marks)
    → take n (spots x y m ++ spots right top k) ≡ spots x y (cut n m) ++ spots right top (cut (n - count (cut n m)) k)
first_of_two n x y right top m k =
    let wanted : n - length (take n (spots x y m)) ≡ n - count (cut n m) = ap (λ i. n - i) (ap length (sym (first_spots n x y m)) ∙ sym (spots_counted x y (cut n m))) in
    take_append n (spots x y m) (spots right top k)
    ∙ ap₂ (λ a b. a ++ b) (sym (first_spots n x y m)) (ap (λ i. take i (spots right top k)) wanted ∙ sym (first_spots (n - count (cut n m)) right top k))

pub lists_shown : ListsShowThePicture
lists_shown sizes store mask =
    let keys = key_places sizes 0 (soft_keys store mask) in
    let in_mask = listed terminal.inclusions sizes store (mask_entries store mask) (around_mask sizes) 0 in
    let of_keys = listed terminal.inclusions sizes store keys (around_keys sizes (length (soft_keys store mask))) (0 + length in_mask) in
    sym (take-map spot most_marks (in_mask ++ of_keys))
    ∙ ap (take most_marks) (map-append spot in_mask of_keys
    ∙ ap₂ (λ a b. a ++ b) (all_spots terminal.inclusions sizes store (mask_entries store mask) (around_mask sizes) 0)
    (all_spots terminal.inclusions sizes store keys (around_keys sizes (length (soft_keys store mask))) (0 + length in_mask)))
    ∙ first_of_two most_marks (pos 0) (pos 0) (pos (sizes.mask.width + gap)) (pos 0) (marks terminal.inclusions store (mask_entries store mask)) (marks terminal.inclusions store keys)
