use Rattle.std.proofs.Common.{ℕ, [], ◌∷◌}
use Rattle.vt_rank.proofs.SetsAfterInsertions.{IsAdding}
use Rattle.vt_rank.proofs.node_set.NodeSet.insert_nodes.Given as goal

abbrev pub invariant-loop-node : goal.invariant-loop-node
invariant-loop-node l = IsAdding (λ (n : ℕ). n ∷ []) l.nodes l.node-index l.fn.self l.self
