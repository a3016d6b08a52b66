-- Costs over the greatest budget, by costs cut at the least that is too much.
use Rattle.std.proofs.Common.{◌≡◌, ℕ, ◌+◌, ◌<◌, min, Bool, not, ◌&&◌, List, [], length, refl, sym, ap, ap₂, ◌∙◌, arith, inl, inr}
use Rattle.std.proofs.lemmas.List.{get_or-map}
use Rattle.std.specs.List.{list_any}
use Rattle.std.proofs.lemmas.Bool.{cases_lt, lt-ltb, le-ltb}
use Rattle.std.specs.Prelude.{nat_lt, slice_index, slice_index_or, sum_by}
use Rattle.vt_rank.specs.declared.graph.Graph.{Graph}
use Rattle.vt_rank.specs.Graphs.{group_of}
use Rattle.vt_rank.proofs.Totals.{sum_by-meets}
use Rattle.vt_chains.specs.Limits.{terminal}
use Rattle.vt_stores.specs.Shapes.{Shape}
use Rattle.vt_verify.specs.declared.listing.Listing.{Listing}
use Rattle.vt_verify.specs.Budgets.{cost, budget}
use Rattle.vt_verify.specs.TriggerGraphs.{IsTriggerGraph}
use Rattle.vt_verify.specs.Triggers.{listed}
use Rattle.vt_verify.proofs.lemmas.graphs.SameTriggers.{everywhere, groups_at}
use Rattle.check_inspect.specs.Costs.{AreMacroCosts, costs_too_much, event_costs_too_much}

-- a number that agrees with another up to one more than a limit is over the limit where the other is
pub same_over : (steps a b : ℕ) → min a (steps + 1) ≡ min b (steps + 1) → nat_lt steps a ≡ nat_lt steps b
same_over steps a b meet = elim (cases_lt steps b) [
  | inl lt ↦ lt-ltb steps a (omega arith) ∙ sym (lt-ltb steps b lt)
  | inr ge ↦ le-ltb steps a (omega arith) ∙ sym (le-ltb steps b ge)
]

pub same_tests : (shape : Shape) (costs : List ℕ) → AreMacroCosts shape (terminal.steps + 1) costs → (λ m. nat_lt terminal.steps (slice_index costs m)) ≡ costs_too_much shape
same_tests shape costs are = everywhere (λ m. let is = are m in same_over terminal.steps (slice_index costs m) (cost shape m) (omega arith))

-- ---- events

module _ (shape : Shape) (events : List Listing) (g : Graph) (are : IsTriggerGraph shape events g) (costs : List ℕ) (cut : AreMacroCosts shape (terminal.steps + 1) costs) where
  budget_is : (e : Listing) → budget shape e.id e.event ≡ sum_by (cost shape) (listed shape e)
  unfolding budget
  budget_is e = refl

  sums_meet : (macros : List ℕ) → nat_lt terminal.steps (sum_by (slice_index costs) macros) ≡ nat_lt terminal.steps (sum_by (cost shape) macros)
  sums_meet macros =
      same_over terminal.steps (sum_by (slice_index costs) macros) (sum_by (cost shape) macros)
      (sum_by-meets (slice_index costs) (cost shape) (terminal.steps + 1) macros (λ m inside. let is = cut m in omega arith))

  -- the test of a group's macros is the test of the event at its index
  pub event_test : (k : ℕ) (e : Listing) → k < length events → e ≡ slice_index_or events k e
      → (nat_lt terminal.steps (sum_by (slice_index costs) (group_of g k)) && not (list_any (λ m. nat_lt terminal.steps (slice_index costs m)) (group_of g k)))
      ≡ event_costs_too_much shape e
  event_test k e lt is =
      let macros : group_of g k ≡ listed shape e = groups_at shape events g are k ∙ get_or-map (listed shape) events k e [] lt ∙ ap (listed shape) (sym is) in
      ap₂ (λ (a b : Bool). a && not b)
      (ap (λ (ms : List ℕ). nat_lt terminal.steps (sum_by (slice_index costs) ms)) macros ∙ sums_meet (listed shape e) ∙ ap (nat_lt terminal.steps) (sym (budget_is e)))
      (ap (λ (ms : List ℕ). list_any (λ m. nat_lt terminal.steps (slice_index costs m)) ms) macros
      ∙ ap (λ (t : ℕ → Bool). list_any t (listed shape e)) (same_tests shape costs cut))
