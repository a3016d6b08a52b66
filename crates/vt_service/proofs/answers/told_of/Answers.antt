use Rattle.std.proofs.Common.{◌≡◌, ap, subst, ◌∙◌}
use Rattle.vt_can.specs.transport.FirstTimes.{IsFirstTime}
use Rattle.vt_server.specs.declared.terminal.Terminal.{Terminal}
use Rattle.vt_server.specs.frame.Deadlines.{IsDue}
use Rattle.vt_server.specs.shown.Screens.{redraws}
use Rattle.vt_server.specs.States.{state_of}
use Rattle.vt_service.proofs.answers.told_of.Goals as goal

pub returns : goal.returns
returns c =
    let same = c.terminal-terminal.ensures in
    record {
      deadline = subst (λ (t : Terminal). IsFirstTime (IsDue (state_of t)) c.next_deadline.result) same c.next_deadline.ensures;
      look = c.look.ensures;
      lost = c.is_lost.ensures ∙ ap (λ (t : Terminal). (state_of t).lost) same;
      redraws = c.redraws.ensures ∙ ap redraws same;
      shown = c.shown.ensures ∙ ap (λ (t : Terminal). (state_of t).shown) same;
    }
