use Rattle.vt_machine.proofs.LongerText.{nothing_left}
use Rattle.vt_machine.proofs.entries.is_filled.Goals as goal

pub returns-in_default : goal.returns-in_default
returns-in_default c = nothing_left c.args.text.now c.loop-byte.rest.now c.loop-byte.byte-index _ c.loop-byte-test.true c.in_default.ensures.cases c.loop-byte.invariant
