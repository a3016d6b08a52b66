use Rattle.std.proofs.Common.{Ok, refl, true}
use Rattle.log_answers.proofs.InputsSent.{takes_and_sends}
use Rattle.log_answers.proofs.OneMoreLine.{taken-other}
use Rattle.vt_can.specs.lines.Actions.{action_value}
use Rattle.vt_can.specs.lines.Readings.{OperatorAction}
use Rattle.vt_server.specs.declared.input.Input.TheVariants as inputs
use Rattle.vt_server.specs.States.{state_of}
use Rattle.log_answers.proofs.comparison.Comparison.take_action.Goals as goal

pub returns-clause-compared : goal.returns-clause-compared
returns-clause-compared c =
    let old = state_of c.args.terminal.now in
    let new = state_of c.step.new.self in
    let sends = takes_and_sends old new (inputs.Operator c.args.action) c.clear.new.self.items c.step.new.outputs.items c.deref.result.now c.in_ok-step.ensures.ok c.clear.ensures.items c.deref.ensures.value in
    λ own wait start lines told differences has.
    taken-other own wait start lines told (record { number = c.args.line; reading = Ok (OperatorAction (action_value c.args.action)); is_received = true }) old new c.args.self.now
    (record { line = c.args.line; tally = c.ask.new.tally; own = c.args.self.now.own; wait = c.args.self.now.wait; now = c.args.self.now.now; status = c.args.self.now.status; «open» = c.ask.new.self; outputs = c.step.new.outputs })
    differences c.deref.result.now has c.requires sends refl refl refl refl refl c.in_ok-ask.ensures refl refl refl
