use Rattle.std.proofs.Common.{arith}
use Rattle.vt_server.proofs.lemmas.timeouts.SessionTimeouts.{one-less, goes-on, state-ends, sent-ends}
use Rattle.vt_server.proofs.terminal.Terminal.expire_tp.Goals as goal

pub loop-abort-preserved : goal.loop-abort-preserved
loop-abort-preserved c =
    goes-on c.loop-abort.invariant c.expire_tp.ensures.rest c.in-Some.ensures.some c.expire_tp.ensures.addresses c.send.ensures.items (omega arith)

pub loop-abort-smaller : goal.loop-abort-smaller
loop-abort-smaller c = omega (arith, one-less c.in-Some.ensures.some.expired)

pub returns-clause-state : goal.returns-clause-state
returns-clause-state c = state-ends c.loop-abort.invariant c.expire_tp.ensures.rest c.in_default.ensures.none

pub returns-clause-sent : goal.returns-clause-sent
returns-clause-sent c = sent-ends c.loop-abort.invariant c.expire_tp.ensures.rest c.in_default.ensures.none
