use Rattle.std.proofs.Common.{◌≡◌, ◌≤◌, length, inl, inr, arith, slice_index}
use Rattle.std.proofs.lemmas.Bool.{cases_lt}
use Rattle.vt_rank.specs.Costs.{group_total}
use Rattle.vt_rank.proofs.CostTable.{group_past}
use Rattle.vt_rank.proofs.capped.group_over.Goals as goal

pub returns-clause-none : goal.returns-clause-none
returns-clause-none c = λ k.
    let f = slice_index c.args.table.now in
    let g = c.args.graph.now in
    let count : c.len-group-end.result ≡ length g.groups.items = omega (arith, c.len-group-end.ensures, g.groups.ok.0) in
    elim (cases_lt k c.len-group-end.result) as (λ _. group_total f g k ≤ c.args.cap) [
      | inl inside ↦ c.loop-group.invariant k (omega (arith, inside))
      | inr past ↦ omega (arith, group_past f g k (omega (arith, past, count)))
    ]
