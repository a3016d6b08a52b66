use Rattle.std.proofs.Common.{◌≡◌, length}
use Rattle.check_text.specs.Circles.{circle_in}
use Rattle.check_text.proofs.circles.circle_in.Given as goal

abbrev pub invariant-loop-id : goal.invariant-loop-id
invariant-loop-id l = circle_in l.left ≡ circle_in l.chain

abbrev pub decreases-loop-id : goal.decreases-loop-id
decreases-loop-id l = length l.left
