use Rattle.std.proofs.Common.{◌≤◌, ◌<◌, ℕ, slice_index}
use Rattle.vt_rank.specs.Costs.{group_total}
use Rattle.vt_rank.proofs.capped.group_over.Given as goal

abbrev pub invariant-loop-group : goal.invariant-loop-group
invariant-loop-group l = (j : ℕ) → j < l.group → group_total (slice_index l.table) l.graph j ≤ l.cap
