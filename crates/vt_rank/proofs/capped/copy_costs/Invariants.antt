use Rattle.std.proofs.Common.{◌≡◌, ◌<◌, ℕ, length, slice_index}
use Rattle.vt_rank.proofs.capped.copy_costs.Given as goal

abbrev pub invariant-loop-node : goal.invariant-loop-node
invariant-loop-node l = (length l.costs ≡ 256) × ((n : ℕ) → n < l.node → slice_index l.costs n ≡ slice_index l.table n)
