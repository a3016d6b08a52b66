use Rattle.vt_objects.proofs.Rounding.{whole_below}
use Rattle.vt_objects.proofs.decimal.rounded.Goals as goal

pub returns-clause-whole : goal.returns-clause-whole
returns-clause-whole c = whole_below c.args.number c.args.unit c.args.divisor c.requires.divisor c.requires.number
