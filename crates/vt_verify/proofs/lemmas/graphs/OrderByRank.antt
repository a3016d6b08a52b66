-- Sorting macros by rank puts each macro after those that it triggers.
use Rattle.std.proofs.Common.{◌≡◌, ℕ, ◌+◌, ◌≤◌, List, ◌∷◌, ◌++◌, length, sym, ap, subst, ◌∙◌, arith}
use Rattle.std.proofs.lemmas.List.{get_or-append-add, length-append}
use Rattle.std.specs.Prelude.{Contains, slice_index, IsPermutation}
use Rattle.std.specs.List.Sorted.{IsNonDecreasingBy}
use Rattle.vt_rank.specs.declared.graph.Graph.{Graph}
use Rattle.vt_rank.specs.Paths.{AreRanks}
use Rattle.vt_verify.specs.declared.listing.Listing.{Listing}
use Rattle.vt_stores.specs.Shapes.{Shape}
use Rattle.vt_verify.specs.TriggerGraphs.{IsTriggerGraph}
use Rattle.vt_verify.specs.Orders.{named_macros, IsByRank}
use Rattle.vt_verify.proofs.lemmas.graphs.SameTriggers.{triggered_is}

-- in a sorted list no key is less than the key of an element before it
none_less : (key : ℕ → ℕ) (order front back : List ℕ) (m n : ℕ) → IsNonDecreasingBy key order → order ≡ front ++ m ∷ back → Contains (m ∷ back) n → key m ≤ key n
none_less key order front back m n sorted is h =
    let all = subst (IsNonDecreasingBy key) is sorted in
    let size = length-append front (m ∷ back) in
    let inside = h.1 in
    let le = all (length front + 0) (length front + h.0) n (omega arith) (omega (arith, size, inside)) in
    let at_m = ap key (get_or-append-add front (m ∷ back) 0 n) in
    let at_n = ap key (get_or-append-add front (m ∷ back) h.0 n ∙ h.2) in
    omega (arith, le, at_m, at_n)

pub ranked : (shape : Shape) (events : List Listing) (graph : Graph) (ranks order macros : List ℕ) → IsTriggerGraph shape events graph → AreRanks graph ranks
    → macros ≡ named_macros shape → IsPermutation macros order → IsNonDecreasingBy (λ m. slice_index ranks m) order → IsByRank shape order
ranked shape events graph ranks order macros are rank is moved sorted = record {
  all = subst (λ (l : List ℕ). IsPermutation l order) is moved;
  before = λ front back m n split triggers h.
      let falls = rank.falls m n (subst (λ (l : List ℕ). Contains l n) (sym (triggered_is shape events graph are m)) triggers) in
      let le = none_less (λ (m : ℕ). slice_index ranks m) order front back m n sorted split h in
      absurd (omega (arith, falls, le));
}
