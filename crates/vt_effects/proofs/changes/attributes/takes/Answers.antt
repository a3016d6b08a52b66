use Rattle.std.proofs.Common.{arith}
use Rattle.vt_effects.proofs.lemmas.objects.FieldTests.{takes_is}
use Rattle.vt_effects.proofs.changes.attributes.takes.Goals as goal

pub returns : goal.returns
returns c = takes_is c.args.kind c.args.value_type c.args.value c.args.kind_of_other c.accepts.result (omega (arith, c.ranges.value.fits)) c.accepts.ensures.0 c.accepts.ensures.1
