use Rattle.vt_rank.specs.Graphs.{nodes_of}
use Rattle.vt_rank.proofs.SetsAfterInsertions.{IsAdding}
use Rattle.vt_rank.proofs.reach.targets.Given as goal

abbrev pub invariant-loop-item : goal.invariant-loop-item
invariant-loop-item l = IsAdding (nodes_of l.graph) l.item-items l.item-index l.initial.targets l.targets
