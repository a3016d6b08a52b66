-- The marks of entries have the IDs of the elements drawn for them.
use Rattle.std.proofs.Common.{◌≡◌, ℕ, zero, suc, Bool, true, false, cond, List, [], ◌∷◌, ◌++◌, map, Option, Some, None, refl, sym, ap, ap₂, ◌∙◌}
use Rattle.std.proofs.lemmas.List.{map-append}
use Rattle.std.specs.FinMap as finite
use Rattle.vt_kinds.specs.declared.entries.Child.{Child}
use Rattle.vt_stores.specs.Stores.{ObjectMap}
use Rattle.vt_shown.specs.ShownElements.{resolves_to, is_element}
use Rattle.vt_layout.specs.Drawings.{shifted, element, entries_in}
use Rattle.vt_layout.specs.Walks.{Draws, with_drawn, each_from, elements}
use Rattle.draw_picture.specs.Marks.{Marks, Mark, led_to, marked, each_marked, marks, ids}

module _ (store : ObjectMap) (within : List Child → Marks) (draws : Draws) (same : (entries : List Child) (from : _) → ids (within entries) ≡ map (λ e. e.id) (draws entries from)) where
  -- an entry before others, for what its ID resolves to
  entry_drawn : (entry : Child) (entries : List Child) (place : ℕ) (from : _) (found : Option ℕ)
      → ids (each_marked store within entries) ≡ map (λ e. e.id) (each_from draws store (suc place) entries from)
      → ids (marked store within entry found (each_marked store within entries))
      ≡ map (λ e. e.id) (with_drawn draws store (element store place (shifted from entry) found) ++ each_from draws store (suc place) entries from)
  entry_drawn entry entries place from None others = others
  entry_drawn entry entries place from (Some id) others = by (is_element (finite.get store id))
    where
      inside : List Child
      inside = entries_in store (finite.get store id)

      later : Marks
      later = each_marked store within entries

      by : (b : Bool) → ids (cond b (Mark (led_to entry id) (within inside) later) later)
          ≡ map (λ e. e.id) (with_drawn draws store (cond b (Some (record { place = place; id = id; at = shifted from entry })) None)
          ++ each_from draws store (suc place) entries from)
      by true =
          ap (λ l. id ∷ l) (
          ap₂ (λ a b. a ++ b) (same inside (shifted from entry)) others
          ∙ sym (map-append (λ e. e.id) (draws inside (shifted from entry)) (each_from draws store (suc place) entries from))
          )
      by false = others

  each_drawn : (entries : List Child) (place : ℕ) (from : _) → ids (each_marked store within entries) ≡ map (λ e. e.id) (each_from draws store place entries from)
  each_drawn [] place from = refl
  each_drawn (entry ∷ entries) place from = entry_drawn entry entries place from (resolves_to store entry.id) (each_drawn entries (suc place) from)

pub marks_drawn : (store : ObjectMap) (depth : ℕ) (entries : List Child) (from : _) → ids (marks depth store entries) ≡ map (λ e. e.id) (elements depth store entries from)
unfolding marks elements
marks_drawn store zero entries from = refl
marks_drawn store (suc depth) entries from = each_drawn store (marks depth store) (elements depth store) (marks_drawn store depth) entries 0 from
