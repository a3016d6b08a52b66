use Rattle.std.proofs.Common.{◌≡◌, ℕ, ◌<◌, [], ◌∷◌, length}
use Rattle.std.specs.Prelude.{slice_index_or}
use Rattle.vt_rank.specs.declared.graph.Item.TheVariants.{Group}
use Rattle.vt_rank.specs.Graphs.{lists}
use Rattle.check_circles.proofs.reduced_graph.single_items.Given as goal

abbrev pub invariant-loop-node : goal.invariant-loop-node
invariant-loop-node l = (length (lists l.nodes) ≡ l.node) × ((n : ℕ) → n < l.node → slice_index_or (lists l.nodes) n [] ≡ Group n ∷ [])
