use Rattle.std.proofs.Common.{ℕ, ◌<◌}
use Rattle.vt_rank.specs.Paths.{IsOnCircle}
use Rattle.vt_rank.proofs.reach.least_on_circles.Given as goal

abbrev pub invariant-loop-node : goal.invariant-loop-node
invariant-loop-node l = (n : ℕ) → n < l.node → IsOnCircle l.graph n → ⊥
