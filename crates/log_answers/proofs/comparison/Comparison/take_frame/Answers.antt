use Rattle.std.proofs.Common.{◌≤◌, List, Ok, refl, sym, subst, arith}
use Rattle.log_answers.specs.declared.said.Said.{Said}
use Rattle.log_answers.specs.OpenQuestions.{Hears}
use Rattle.log_answers.specs.Conversations.{Takes}
use Rattle.log_answers.proofs.OneMoreLine.{taken-frame}
use Rattle.vt_can.specs.lines.Readings.{FrameAt}
use Rattle.vt_server.specs.declared.output.Output.{Output}
use Rattle.vt_server.specs.States.{state_of}
use Rattle.log_answers.proofs.comparison.Comparison.take_frame.Goals as goal

pub returns-clause-compared : goal.returns-clause-compared
returns-clause-compared c =
    let old = state_of c.args.terminal.now in
    let new = state_of c.receive.new.terminal in
    let before = c.args.self.now in
    let sends = subst (λ (sent : List Output). Takes c.args.is_received old (Ok (FrameAt c.args.time c.args.frame)) new sent) (sym c.deref.ensures.value) c.in_ok-receive.ensures in
    let times : before.now ≤ c.max-self.result = (let is = c.max-self.ensures in omega arith) in
    let hears = subst (λ (list : List Said). Hears list c.ask.new.self.questions.items c.hear.new.self.questions.items c.expire.new.differences.items c.hear.new.differences.items) c.in_ok-answer.ensures.said c.in_ok-hear.ensures in
    λ own wait start lines told has.
    taken-frame own wait start lines told (record { number = c.args.line; reading = Ok (FrameAt c.args.time c.args.frame); is_received = c.args.is_received }) old new before
    (record { line = c.args.line; tally = c.hear.new.tally; own = before.own; wait = before.wait; now = c.max-self.result; status = c.recorded_in.new.status; «open» = c.hear.new.self; outputs = c.receive.new.outputs })
    c.expire.new.self.questions.items c.ask.new.self.questions.items c.args.differences.now.items c.expire.new.differences.items c.hear.new.differences.items c.deref.result.now
    has c.requires sends c.max-self.ensures times c.in_ok-answer.ensures.status c.in_ok-expire.ensures c.in_ok-ask.ensures hears refl refl refl
