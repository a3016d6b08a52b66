use Rattle.vt_rank.proofs.SetsAfterInsertions.{IsMerging}
use Rattle.vt_rank.proofs.node_set.NodeSet.insert_all.Given as goal

abbrev pub invariant-loop-place : goal.invariant-loop-place
invariant-loop-place l = IsMerging l.fn.self.words l.others.words l.self.words l.place
