use Rattle.std.proofs.Common.{◌≡◌, ℕ, ◌<◌, false, ◌==◌, length}
use Rattle.std.specs.Prelude.{slice_index_or}
use Rattle.vt_rank.specs.NodeSets.{bit_of}
use Rattle.vt_rank.proofs.gather.members.Given as goal

abbrev pub invariant-loop-node : goal.invariant-loop-node
invariant-loop-node l = (length l.members ≡ 256) × ((n : ℕ) → n < l.node → slice_index_or l.members n false ≡ (bit_of l.set n == 1))
