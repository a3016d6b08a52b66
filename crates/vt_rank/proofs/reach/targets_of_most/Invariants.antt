use Rattle.vt_rank.specs.Graphs.{group_of}
use Rattle.vt_rank.proofs.SetsAfterInsertions.{IsAdding}
use Rattle.vt_rank.proofs.reach.targets_of_most.Given as goal

abbrev pub invariant-loop-group : goal.invariant-loop-group
invariant-loop-group l = IsAdding (group_of l.graph) l.group-items l.group-index l.initial.targets l.targets
