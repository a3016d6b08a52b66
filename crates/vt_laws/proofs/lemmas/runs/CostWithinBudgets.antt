-- The cost of an input is within the budgets of the pools accepted last.
use Rattle.std.proofs.Common.{◌≡◌, ◌≤◌, ◌-◌, ℕ, List, [], ◌∷◌, Option, sym, ap, subst, ◌∙◌, arith}
use Rattle.std.proofs.lemmas.List.Sums.{sum_by-cons}
use Rattle.std.specs.Prelude.{sum_by}
use Rattle.std.specs.List.{AllByRecursion}
use Rattle.vt_stores.specs.Shapes.{Shape}
use Rattle.vt_stores.specs.Stores.{ObjectMap}
use Rattle.vt_effects.specs.Soundness.{shape_in}
use Rattle.vt_macros.specs.Machines.{End, Ended, run_of, total_budget}
use Rattle.vt_macros.specs.Runs.{PoolsAreReady}
use Rattle.vt_laws.specs.Costs.{CostsAreWithin, used, steps_of, printed, budget_of}
use Rattle.vt_laws.specs.Headline.{NeverSticks, Pools, Run, EndsInTime, accepted_after, runs}
use Rattle.vt_laws.proofs.lemmas.runs.RunsOfActsEnd.{AllInTime}

-- A run that ends uses no more steps than it has at its start.
used-within : (most : ℕ) (end : End) (new : ObjectMap) (left : ℕ) → end ≡ Ended new left → used most end ≤ most
used-within most end new left is = subst (λ (e : End). used most e ≤ most) (sym is) (below most left)
  where
    below : (n m : ℕ) → n - m ≤ n
    below n m = omega arith

module _ (never : NeverSticks) (ready : PoolsAreReady) where
  -- A run has at its start the budgets that the pool's report prints.
  begins-with : (last : Option ObjectMap) (run : Run) → EndsInTime last run → total_budget (shape_in run.objects) run.raised ≡ printed last run.raised
  begins-with last run ends =
      let pool = ready ends.accepted ends.verified.stored ends.verified.acceptable in
      ap (λ (shape : Shape). total_budget shape run.raised) (ends.ready.shape ∙ sym pool.shape)
      ∙ sym (ap (λ (o : Option ObjectMap). printed o run.raised) ends.is_last)

  run-within : (last : Option ObjectMap) (run : Run) → EndsInTime last run → steps_of run ≤ printed last run.raised
  run-within last run ends =
      subst (λ (n : ℕ). steps_of run ≤ n) (begins-with last run ends)
      (used-within (total_budget (shape_in run.objects) run.raised) (run_of run.objects run.raised) ends.ends.new ends.ends.left ends.ends.ended)

  runs-within : (pools : Pools) (rs : List Run) → AllInTime pools rs → sum_by steps_of rs ≤ sum_by (budget_of pools) rs
  runs-within pools [] all = omega arith
  runs-within pools (run ∷ rs) all =
      let first : steps_of run ≤ budget_of pools run = run-within (pools run.address) run all.0 in
      let rest = runs-within pools rs all.1 in
      let steps = sum_by-cons steps_of run rs in
      let most = sum_by-cons (budget_of pools) run rs in
      omega (arith, first, rest, steps, most)

  each-within : (pools : Pools) (rs : List Run) → AllInTime pools rs → AllByRecursion (λ run. steps_of run ≤ budget_of pools run) rs
  each-within pools [] all = tt
  each-within pools (run ∷ rs) all = (run-within (pools run.address) run all.0, each-within pools rs all.1)

  pub costs-within : CostsAreWithin
  costs-within pools s e is found =
      let ends = (never.events pools s (e ∷ []) is (found, tt)).runs_end.0.each in
      record {
        each = each-within (accepted_after s e pools) (runs s e) ends;
        whole = runs-within (accepted_after s e pools) (runs s e) ends;
      }
