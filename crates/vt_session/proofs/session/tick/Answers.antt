use Rattle.std.proofs.Common.{[], ◌∷◌, ap, refl, subst, ◌∙◌}
use Rattle.vt_can.specs.declared.frames.frame.Frame.{Frame as CanFrame}
use Rattle.vt_server.specs.declared.input.Input.TheVariants.{Frame}
use Rattle.vt_server.specs.frame.Deadlines.{echo}
use Rattle.vt_session.specs.declared.session.Session.{Session}
use Rattle.vt_session.specs.Inputs.{tick_at}
use Rattle.vt_session.specs.Sessions.{Takes}
use Rattle.vt_session.proofs.Takings.{answered, takes_cleared}
use Rattle.vt_session.proofs.session.tick.Goals as goal

pub returns : goal.returns
returns c =
    let before = c.args.session.now in
    let after = c.take_one.new.session in
    let status = c.take_one.result in
    let cleared : Session = record before { outputs = c.clear.new.self; next = 0 } in
    let taken = subst (λ (frame : CanFrame). Takes cleared (Frame c.args.time frame ∷ []) after status)
    (c.echo-frame.ensures ∙ ap echo c.own.ensures) c.take_one.ensures in
    answered before _ (tick_at before c.args.time) after status c.in_default.ensures refl
    (takes_cleared before c.clear.new.self (tick_at before c.args.time ∷ []) after status taken)
