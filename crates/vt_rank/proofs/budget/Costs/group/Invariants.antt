use Rattle.std.proofs.Common.{◌≡◌, ◌+◌, drop}
use Rattle.std.specs.List.{sum_by}
use Rattle.vt_rank.specs.Costs.{cost_of, group_cost}
use Rattle.vt_rank.proofs.budget.Costs.group.Given as goal

abbrev pub invariant-loop-node : goal.invariant-loop-node
invariant-loop-node l = l.total + sum_by (cost_of l.graph) (drop l.node-index l.node-items) ≡ group_cost l.graph l.group
