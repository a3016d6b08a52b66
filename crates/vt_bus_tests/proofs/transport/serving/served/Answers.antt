use Rattle.std.proofs.Common.{◌∙◌}
use Rattle.vt_can.proofs.lemmas.transport.SessionsAfterAborts.{expired_same, expired_fewer, serves_as}
use Rattle.vt_transport.specs.Protocol.{protocol}
use Rattle.vt_bus_tests.proofs.transport.serving.served.Goals as goal

pub loop-abort-preserved : goal.loop-abort-preserved
loop-abort-preserved c = record {
  own_address = c.expire.ensures.own_address ∙ c.loop-abort.invariant.own_address;
  spare = c.expire.ensures.spare ∙ c.loop-abort.invariant.spare;
  sessions = λ q. expired_same _ _ _ _ _ _ c.in-Some.ensures.some.expired q ∙ c.loop-abort.invariant.sessions q;
}

pub loop-abort-smaller : goal.loop-abort-smaller
loop-abort-smaller c = expired_fewer _ _ _ _ _ _ c.in-Some.ensures.some.expired

pub returns-clause-serves : goal.returns-clause-serves
returns-clause-serves c =
    serves_as protocol c.args.receiver.now c.prepare.new.self c.loop-abort.receiver c.expire.new.self c.hear.new.self c.args.now c.args.frame.now c.in-Ok.heard
    c.prepare.ensures.own_address c.prepare.ensures.sessions c.loop-abort.invariant.own_address c.loop-abort.invariant.sessions
    c.in_default.ensures.none c.in_default.ensures.all c.in-Ok.ensures.step c.in-Ok.ensures.others
