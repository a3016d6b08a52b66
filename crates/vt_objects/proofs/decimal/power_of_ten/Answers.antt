use Rattle.std.proofs.Common.{arith}
use Rattle.std.proofs.Math.Nat.{one-le-pow, pow-le-pow_right}
use Rattle.vt_objects.proofs.decimal.power_of_ten.Goals as goal

pub returns-clause-some : goal.returns-clause-some
returns-clause-some c = rw (c.pow.ensures, c.from.ensures) (one-le-pow c.args.exponent 10 (omega arith))

pub returns-clause-most : goal.returns-clause-most
returns-clause-most c = rw (c.pow.ensures, c.from.ensures) (pow-le-pow_right {n = 10} (omega arith) c.requires)
