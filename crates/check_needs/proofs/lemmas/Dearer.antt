-- Objects whose events take at most some steps.
use Rattle.std.proofs.Common.{◌≡◌, ◌≤◌, ◌<◌, ℕ, ◌+◌, List, [], ◌∷◌, ◌++◌, map, take, get_or, length, sym, ap, ◌∙◌, arith}
use Rattle.std.proofs.lemmas.List.{take_more, take_all, map-append}
use Rattle.vt_kinds.specs.declared.object.Object.{Object}
use Rattle.vt_stores.specs.Stores.{seen_entry}
use Rattle.std.specs.List.{AllByRecursion}
use Rattle.vt_kinds.specs.Records.{Seen}
use Rattle.vt_stores.specs.Shapes.{Shape}
use Rattle.check_needs.specs.Loads.{IsWithin}

within_more : (shape : Shape) (a b id : ℕ) → a ≤ b → IsWithin shape a id → IsWithin shape b id
within_more shape a b id le within = λ event lt. omega (arith, within event lt)

-- with one more object, and more steps
pub all_within : (shape : Shape) (a own b : ℕ) → a ≤ b → own ≤ b → (es : List (ℕ × Seen)) (e : ℕ × Seen) → AllByRecursion (λ x. IsWithin shape a x.0) es → IsWithin shape own e.0
    → AllByRecursion (λ x. IsWithin shape b x.0) (es ++ e ∷ [])
all_within shape a own b le more [] e all most = (within_more shape own b e.0 more most, tt)
all_within shape a own b le more (x ∷ es) e all most = (within_more shape a b x.0 le all.0, all_within shape a own b le more es e all.1 most)

module _ {B : Type 0} where
  -- the next object, at the end
  pub next_entry : (items : List (ℕ × Object B)) (i : ℕ) (item : ℕ × Object B) → i < length items → item ≡ get_or items i item
      → map seen_entry (take (i + 1) items) ≡ map seen_entry (take i items) ++ seen_entry item ∷ []
  next_entry items i item lt is =
      ap (λ (l : List (ℕ × Object B)). map seen_entry l) (take_more items i item lt)
      ∙ ap (λ (x : ℕ × Object B). map seen_entry (take i items ++ x ∷ [])) (sym is)
      ∙ map-append seen_entry (take i items) (item ∷ [])

  -- all objects are taken
  pub all_taken : (items : List (ℕ × Object B)) (i : ℕ) → length items ≤ i → map seen_entry (take i items) ≡ map seen_entry items
  all_taken items i le = ap (λ (l : List (ℕ × Object B)). map seen_entry l) (take_all i items le)
