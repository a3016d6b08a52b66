-- The first marks of a mask, and then those of its keys, have the first IDs of its drawing.
use Rattle.std.proofs.Common.{◌≡◌, ℕ, ◌-◌, ◌++◌, take, length, sym, ap, ap₂, ◌∙◌}
use Rattle.std.specs.Prelude.{pos, ◌+◌, map}
use Rattle.std.proofs.lemmas.List.{map-append}
use Rattle.vt_chains.specs.Limits.{terminal}
use Rattle.vt_shown.specs.ShownElements.{soft_keys}
use Rattle.vt_layout.specs.Drawings.{origin, mask_entries, key_entries}
use Rattle.vt_layout.specs.Walks.{elements}
use Rattle.draw_picture.specs.Documents.{gap, key_marks, key_places, mask_marks, most_marks}
use Rattle.draw_picture.specs.Marks.{Marks, marks, count, cut, ids, spots}
use Rattle.vt_tool_laws.specs.PictureLaws.{ElementsAreTheDrawing, PicturesShowTheDrawing}
use Rattle.draw_picture.proofs.ClosedPictures.{picture_closed}
use Rattle.vt_tool_laws.proofs.KeyPlaces.{same_keys}
use Rattle.vt_tool_laws.proofs.DrawnMarks.{marks_drawn}
use Rattle.vt_tool_laws.proofs.PlacedMarks.{elements_in_place, ids_of_spots}
use Rattle.vt_tool_laws.proofs.FirstMarks.{take_append, ids_counted, first_ids}

-- the first marks of two parts
first_of_two : (n : ℕ) (m k : Marks) → ids (cut n m) ++ ids (cut (n - count (cut n m)) k) ≡ take n (ids m ++ ids k)
first_of_two n m k =
    let wanted : n - count (cut n m) ≡ n - length (take n (ids m)) = ap (λ i. n - i) (ids_counted (cut n m) ∙ ap length (first_ids n m)) in
    ap₂ (λ a b. a ++ b) (first_ids n m) (first_ids (n - count (cut n m)) k ∙ ap (λ i. take i (ids k)) wanted)
    ∙ sym (take_append n (ids m) (ids k))

pub elements_shown : ElementsAreTheDrawing
elements_shown sizes store mask =
    let in_mask = mask_entries store mask in
    let of_keys = key_entries store mask in
    first_of_two most_marks (marks terminal.inclusions store in_mask) (marks terminal.inclusions store (key_places sizes 0 (soft_keys store mask)))
    ∙ ap (take most_marks) (
    ap₂ (λ a b. a ++ b) (marks_drawn store terminal.inclusions in_mask origin)
    (same_keys store terminal.inclusions sizes (soft_keys store mask) ∙ marks_drawn store terminal.inclusions of_keys origin)
    ∙ sym (map-append (λ e. e.id) (elements terminal.inclusions store in_mask origin) (elements terminal.inclusions store of_keys origin))
    )

pub picture_shows : PicturesShowTheDrawing
picture_shows sizes store mask text is =
    let whole = picture_closed sizes store mask text is in
    let of_mask = spots (pos 0) (pos 0) (mask_marks store mask) in
    let of_keys = spots (pos (sizes.mask.width + gap)) (pos 0) (key_marks sizes store mask) in (
      whole.0,
      whole.1,
      whole.2 ∙ ap (λ l. l ++ of_keys) (elements_in_place store mask),
      ap (map (λ spot. spot.0)) whole.2
          ∙ map-append (λ spot. spot.0) of_mask of_keys
          ∙ ap₂ (λ a b. a ++ b) (ids_of_spots (pos 0) (pos 0) (mask_marks store mask)) (ids_of_spots (pos (sizes.mask.width + gap)) (pos 0) (key_marks sizes store mask))
          ∙ elements_shown sizes store mask,
    )
