use Rattle.std.proofs.Common.{◌≡◌, ◌≤◌, ◌+◌, ◌*◌, length}
use Rattle.check_values.specs.Pictures.{unpacked}
use Rattle.check_values.proofs.pictures.unpacked.Given as goal

abbrev pub invariant-loop-rest : goal.invariant-loop-rest
invariant-loop-rest l =
    (l.sum + unpacked l.rest ≡ unpacked l.pairs) × (l.sum + 255 * length l.rest ≤ 255 * length l.pairs)

abbrev pub decreases-loop-rest : goal.decreases-loop-rest
decreases-loop-rest l = length l.rest
