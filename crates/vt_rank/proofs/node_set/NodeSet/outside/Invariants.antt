use Rattle.std.proofs.Common.{ℕ, ◌/◌, ◌<◌}
use Rattle.vt_rank.specs.NodeSets.{IsIn}
use Rattle.vt_rank.proofs.node_set.NodeSet.outside.Given as goal

abbrev pub invariant-loop-place : goal.invariant-loop-place
invariant-loop-place l = (n : ℕ) → n / 64 < l.place → IsIn l.self n → IsIn l.others n
