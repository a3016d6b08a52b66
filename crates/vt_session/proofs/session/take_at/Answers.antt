use Rattle.vt_session.specs.Sessions.{input_at}
use Rattle.vt_session.proofs.Takings.{answered_at, both_cleared}
use Rattle.vt_session.proofs.session.take_at.Goals as goal

pub returns : goal.returns
returns c =
    let before = c.args.session.now in
    let input = c.in-Some-input.input in
    answered_at before c.args.time c.args.input input c.take_both.new.session c.take_both.result c.in_default.ensures c.in-Some-input.is
    (both_cleared before c.clear.new.self (input_at before c.args.time input) c.take_both.new.session c.take_both.result c.take_both.ensures)
