use Rattle.std.proofs.Common.{ap, refl, sym}
use Rattle.log_answers.specs.Comparisons.{start_at}
use Rattle.log_answers.specs.Conversations.{Point}
use Rattle.log_answers.proofs.OneMoreLine.{none-compared}
use Rattle.vt_can.specs.declared.frames.frame.Frame.{Frame}
use Rattle.vt_server.specs.States.{state_of}
use Rattle.log_answers.proofs.comparison.Comparison.new.Goals as goal

pub returns-clause-compared : goal.returns-clause-compared
returns-clause-compared c =
    let state = state_of c.args.terminal.now in
    let is = ap (λ (frame : Frame). let point : Point = record { state = state; now = 0; status = frame.bytes.items } in point) (sym c.status.ensures) in
    none-compared c.args.terminal.now.node.claims.own c.args.wait (start_at state) state
    (record { line = 0; tally = c.default.result; own = c.own.result; wait = c.args.wait; now = 0; status = c.status.result.bytes; «open» = c.new.result; outputs = c.new-2.result })
    c.own.ensures refl is c.new.ensures
