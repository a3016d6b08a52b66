-- Keys at other places are the same elements.
use Rattle.std.proofs.Common.{◌≡◌, ℕ, zero, suc, Bool, true, false, cond, List, [], ◌∷◌, ◌++◌, map, Option, Some, None, refl, ap}
use Rattle.std.specs.FinMap as finite
use Rattle.vt_kinds.specs.declared.entries.Child.{Child}
use Rattle.vt_stores.specs.Stores.{ObjectMap}
use Rattle.vt_shown.specs.ShownElements.{resolves_to, is_element}
use Rattle.vt_layout.specs.Drawings.{entries_in, unmoved}
use Rattle.check_needs.specs.declared.sizes.Sizes.{Sizes}
use Rattle.draw_picture.specs.Documents.{key_place, key_places}
use Rattle.draw_picture.specs.Marks.{Marks, Mark, led_to, marked, each_marked, marks, ids}

module _ (store : ObjectMap) (within : List Child → Marks) where
  other_place : (entry other : Child) (found : Option ℕ) (m k : Marks) → ids m ≡ ids k → ids (marked store within entry found m) ≡ ids (marked store within other found k)
  other_place entry other None m k same = same
  other_place entry other (Some id) m k same = by (is_element (finite.get store id))
    where
      inside : Marks
      inside = within (entries_in store (finite.get store id))

      by : (b : Bool) → ids (cond b (Mark (led_to entry id) inside m) m) ≡ ids (cond b (Mark (led_to other id) inside k) k)
      by true = ap (λ l. id ∷ (ids inside ++ l)) same
      by false = same

  each_place : (sizes : Sizes) (i : ℕ) (keys : List ℕ) → ids (each_marked store within (key_places sizes i keys)) ≡ ids (each_marked store within (map unmoved keys))
  each_place sizes i [] = refl
  each_place sizes i (key ∷ keys) = other_place (key_place sizes i key) (unmoved key) (resolves_to store key) _ _ (each_place sizes (suc i) keys)

pub same_keys : (store : ObjectMap) (depth : ℕ) (sizes : Sizes) (keys : List ℕ) → ids (marks depth store (key_places sizes 0 keys)) ≡ ids (marks depth store (map unmoved keys))
unfolding marks
same_keys store zero sizes keys = refl
same_keys store (suc depth) sizes keys = each_place store (marks depth store) sizes 0 keys
