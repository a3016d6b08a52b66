use Rattle.std.proofs.Common.{◌≡◌, ℕ, ◌+◌, ◌<◌, ◌≤◌, ◌^◌, None, Option, IfNone, slice_index, subst, arith, rules}
use Rattle.vt_rank.specs.Costs.{group_total}
use Rattle.vt_rank.specs.Tables.{IsFilled}
use Rattle.vt_rank.proofs.Totals.{costs_are_totals}
use Rattle.vt_rank.proofs.CostTable.{full, first_group, costs_are, within_cap}
use Rattle.vt_rank.proofs.capped.costs.Goals as goal

pub returns-in-Some-clause-totals : goal.returns-in-Some-clause-totals
returns-in-Some-clause-totals c = costs_are_totals c.args.graph.now c.args.ranks.now c.requires

pub returns-in-Some-group_over-clause-over : goal.returns-in-Some-group_over-clause-over
returns-in-Some-group_over-clause-over c =
    let filled = subst (λ (k : ℕ). IsFilled c.args.graph.now c.args.ranks.now (k + 1) c.loop-rank.rank c.loop-rank.table) c.from-limit.ensures c.loop-rank.invariant.filled in
    let f = full c.args.graph.now c.args.ranks.now c.args.cap c.loop-rank.rank c.loop-rank.table c.requires filled c.loop-rank-test.false in
    let none : c.node_over.result ≡ None = search rules in
    let nodes = subst (λ (found : Option ℕ). IfNone found ((n : ℕ) → n < 256 → slice_index c.loop-rank.table n ≤ c.args.cap)) none c.node_over.ensures.none in
    first_group c.args.graph.now c.args.cap c.loop-rank.table c.in-Some-group_over.group f nodes c.in-Some-group_over.ensures.over c.in-Some-group_over.ensures.first

pub returns-in-Some-group_over-clause-totals : goal.returns-in-Some-group_over-clause-totals
returns-in-Some-group_over-clause-totals c = costs_are_totals c.args.graph.now c.args.ranks.now c.requires

pub returns-clause-costs : goal.returns-clause-costs
returns-clause-costs c =
    let filled = subst (λ (k : ℕ). IsFilled c.args.graph.now c.args.ranks.now (k + 1) c.loop-rank.rank c.loop-rank.table) c.from-limit.ensures c.loop-rank.invariant.filled in
    let f = full c.args.graph.now c.args.ranks.now c.args.cap c.loop-rank.rank c.loop-rank.table c.requires filled c.loop-rank-test.false in
    let none : c.node_over.result ≡ None = search rules in
    let no_group : c.group_over.result ≡ None = search rules in
    let nodes = subst (λ (found : Option ℕ). IfNone found ((n : ℕ) → n < 256 → slice_index c.loop-rank.table n ≤ c.args.cap)) none c.node_over.ensures.none in
    let groups = subst (λ (found : Option ℕ). IfNone found ((k : ℕ) → group_total (slice_index c.loop-rank.table) c.args.graph.now k ≤ c.args.cap)) no_group c.group_over.ensures.none in
    let small : c.args.cap < 2 ^ 32 = omega arith in
    costs_are c.args.graph.now c.args.cap c.loop-rank.table c.copy_costs.new.costs f nodes c.copy_costs.ensures.copies c.copy_costs.ensures.size groups small

pub returns-clause-within : goal.returns-clause-within
returns-clause-within c =
    let filled = subst (λ (k : ℕ). IsFilled c.args.graph.now c.args.ranks.now (k + 1) c.loop-rank.rank c.loop-rank.table) c.from-limit.ensures c.loop-rank.invariant.filled in
    let f = full c.args.graph.now c.args.ranks.now c.args.cap c.loop-rank.rank c.loop-rank.table c.requires filled c.loop-rank-test.false in
    let none : c.node_over.result ≡ None = search rules in
    let no_group : c.group_over.result ≡ None = search rules in
    let nodes = subst (λ (found : Option ℕ). IfNone found ((n : ℕ) → n < 256 → slice_index c.loop-rank.table n ≤ c.args.cap)) none c.node_over.ensures.none in
    let groups = subst (λ (found : Option ℕ). IfNone found ((k : ℕ) → group_total (slice_index c.loop-rank.table) c.args.graph.now k ≤ c.args.cap)) no_group c.group_over.ensures.none in
    within_cap c.args.graph.now c.args.cap c.loop-rank.table f nodes groups

pub returns-clause-totals : goal.returns-clause-totals
returns-clause-totals c = costs_are_totals c.args.graph.now c.args.ranks.now c.requires
