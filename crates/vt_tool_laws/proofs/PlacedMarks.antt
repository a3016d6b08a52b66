-- The marks of entries are at the places of the elements drawn for them.
use Rattle.std.proofs.Common.{◌≡◌, ℕ, zero, suc, ◌+◌, ◌-◌, Bool, true, false, cond, List, [], ◌∷◌, ◌++◌, map, take, length, Option, Some, None, refl, sym, ap, ap₂, ◌∙◌}
use Rattle.std.specs.Prelude.{ℤ, pos, ◌+ℤ◌}
use Rattle.std.proofs.lemmas.List.{length-append, map-append}
use Rattle.std.specs.FinMap as finite
use Rattle.vt_kinds.specs.declared.entries.Child.{Child}
use Rattle.vt_stores.specs.Stores.{ObjectMap}
use Rattle.vt_chains.specs.Limits.{terminal}
use Rattle.vt_shown.specs.ShownElements.{resolves_to, is_element}
use Rattle.vt_layout.specs.Drawings.{shifted, element, entries_in, mask_entries, origin}
use Rattle.vt_layout.specs.Walks.{Draws, with_drawn, each_from, elements}
use Rattle.draw_picture.specs.Documents.{most_marks}
use Rattle.draw_picture.specs.Marks.{Marks, Nothing, Mark, count, cut, led_to, marked, each_marked, marks, ids, spots}
use Rattle.vt_tool_laws.specs.PictureLaws.{ElementsAreInPlace}
use Rattle.vt_tool_laws.proofs.FirstMarks.{take_append}

module _ (store : ObjectMap) (within : List Child → Marks) (draws : Draws) (same : (entries : List Child) (from : _) → spots from.x from.y (within entries) ≡ map (λ e. (e.id, e.at.x, e.at.y)) (draws entries from)) where
  -- an entry before others, for what its ID resolves to
  entry_placed : (entry : Child) (entries : List Child) (place : ℕ) (from : _) (found : Option ℕ)
      → spots from.x from.y (each_marked store within entries) ≡ map (λ e. (e.id, e.at.x, e.at.y)) (each_from draws store (suc place) entries from)
      → spots from.x from.y (marked store within entry found (each_marked store within entries))
      ≡ map (λ e. (e.id, e.at.x, e.at.y)) (with_drawn draws store (element store place (shifted from entry) found) ++ each_from draws store (suc place) entries from)
  entry_placed entry entries place from None others = others
  entry_placed entry entries place from (Some id) others = by (is_element (finite.get store id))
    where
      inside : List Child
      inside = entries_in store (finite.get store id)

      later : Marks
      later = each_marked store within entries

      by : (b : Bool) → spots from.x from.y (cond b (Mark (led_to entry id) (within inside) later) later)
          ≡ map (λ e. (e.id, e.at.x, e.at.y)) (with_drawn draws store (cond b (Some (record { place = place; id = id; at = shifted from entry })) None)
          ++ each_from draws store (suc place) entries from)
      by true =
          ap (λ l. (id, from.x +ℤ entry.x, from.y +ℤ entry.y) ∷ l) (
          ap₂ (λ a b. a ++ b) (same inside (shifted from entry)) others
          ∙ sym (map-append (λ e. (e.id, e.at.x, e.at.y)) (draws inside (shifted from entry)) (each_from draws store (suc place) entries from))
          )
      by false = others

  each_placed : (entries : List Child) (place : ℕ) (from : _) → spots from.x from.y (each_marked store within entries) ≡ map (λ e. (e.id, e.at.x, e.at.y)) (each_from draws store place entries from)
  each_placed [] place from = refl
  each_placed (entry ∷ entries) place from = entry_placed entry entries place from (resolves_to store entry.id) (each_placed entries (suc place) from)

pub marks_placed : (store : ObjectMap) (depth : ℕ) (entries : List Child) (from : _) → spots from.x from.y (marks depth store entries) ≡ map (λ e. (e.id, e.at.x, e.at.y)) (elements depth store entries from)
unfolding marks elements
marks_placed store zero entries from = refl
marks_placed store (suc depth) entries from = each_placed store (marks depth store) (elements depth store) (marks_placed store depth) entries 0 from

-- ---- the first of them

pub spots_counted : (x y : ℤ) (m : Marks) → count m ≡ length (spots x y m)
spots_counted x y Nothing = refl
spots_counted x y (Mark entry inside later) =
    ap suc (ap₂ (λ a b. a + b) (spots_counted (x +ℤ entry.x) (y +ℤ entry.y) inside) (spots_counted x y later)
    ∙ sym (length-append (spots (x +ℤ entry.x) (y +ℤ entry.y) inside) (spots x y later)))

none_taken : {A : Type 0} (n : ℕ) → [] ≡ take {A = A} n []
none_taken zero = refl
none_taken (suc n) = refl

pub first_spots : (n : ℕ) (x y : ℤ) (m : Marks) → spots x y (cut n m) ≡ take n (spots x y m)
unfolding cut
first_spots n x y Nothing = none_taken n
first_spots zero x y (Mark entry inside later) = refl
first_spots (suc n) x y (Mark entry inside later) =
    let in_x = x +ℤ entry.x in
    let in_y = y +ℤ entry.y in
    let wanted : n - count (cut n inside) ≡ n - length (take n (spots in_x in_y inside)) =
    ap (λ k. n - k) (spots_counted in_x in_y (cut n inside) ∙ ap length (first_spots n in_x in_y inside)) in
    ap (λ l. (entry.id, in_x, in_y) ∷ l) (
    ap₂ (λ a b. a ++ b) (first_spots n in_x in_y inside) (first_spots (n - count (cut n inside)) x y later ∙ ap (λ k. take k (spots x y later)) wanted)
    ∙ sym (take_append n (spots in_x in_y inside) (spots x y later))
    )

pub elements_in_place : ElementsAreInPlace
elements_in_place store mask =
    first_spots most_marks (pos 0) (pos 0) (marks terminal.inclusions store (mask_entries store mask))
    ∙ ap (take most_marks) (marks_placed store terminal.inclusions (mask_entries store mask) origin)

-- the IDs of places are those of the marks
pub ids_of_spots : (x y : ℤ) (m : Marks) → map (λ spot. spot.0) (spots x y m) ≡ ids m
ids_of_spots x y Nothing = refl
ids_of_spots x y (Mark entry inside later) =
    ap (λ l. entry.id ∷ l) (map-append (λ spot. spot.0) (spots (x +ℤ entry.x) (y +ℤ entry.y) inside) (spots x y later)
    ∙ ap₂ (λ a b. a ++ b) (ids_of_spots (x +ℤ entry.x) (y +ℤ entry.y) inside) (ids_of_spots x y later))
