-- The lines of a report are appended event by event.
use Rattle.std.proofs.Common.{◌≡◌, ℕ, zero, suc, ◌+◌, ◌≤◌, List, [], ◌∷◌, ◌++◌, take, length, Some, refl, sym, ap, ◌∙◌, append_assoc, arith}
use Rattle.std.proofs.lemmas.List.{append-nil}
use Rattle.std.specs.Prelude.{slice_get}
use Rattle.std.specs.List.{flat_map}

module _ {E : Type 0} (line : E → List ℕ) where
  pub more_lines : (events : List E) (k : ℕ) (e : E) → slice_get events k ≡ Some e → flat_map line (take (k + 1) events) ≡ flat_map line (take k events) ++ line e
  more_lines [] k e is = absurd cc
  more_lines (x ∷ events) zero e is =
      let same : x ≡ e = cc in
      append-nil (line x) ∙ ap line same
  more_lines (x ∷ events) (suc k) e is =
      let one : suc k + 1 ≡ suc (k + 1) = omega arith in
      ap (λ (n : ℕ). flat_map line (take n (x ∷ events))) one
      ∙ ap (λ (ls : List ℕ). line x ++ ls) (more_lines events k e is)
      ∙ sym (append_assoc (line x) (flat_map line (take k events)) (line e))

  pub line_added : (front old new : List ℕ) (events : List E) (k : ℕ) (e : E) (added : List ℕ) → slice_get events k ≡ Some e
      → old ≡ front ++ flat_map line (take k events) → added ≡ line e → new ≡ old ++ added → new ≡ front ++ flat_map line (take (k + 1) events)
  line_added front old new events k e added there so_far is made =
      made ∙ ap (λ (text : List ℕ). text ++ added) so_far
      ∙ append_assoc front (flat_map line (take k events)) added
      ∙ ap (λ (ls : List ℕ). front ++ (flat_map line (take k events) ++ ls)) is
      ∙ ap (λ (ls : List ℕ). front ++ ls) (sym (more_lines events k e there))

  pub all_taken : (events : List E) (k : ℕ) → length events ≤ k → take k events ≡ events
  all_taken [] zero le = refl
  all_taken [] (suc k) le = refl
  all_taken (x ∷ events) zero le = absurd (omega arith)
  all_taken (x ∷ events) (suc k) le = ap (λ (es : List E). x ∷ es) (all_taken events k (omega arith))
