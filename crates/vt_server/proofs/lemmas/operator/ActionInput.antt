-- The input of an operator's action makes the step of its definition.
use Rattle.std.proofs.Common.{append_assoc, ◌≡◌, true, false, cond, List, [], ◌++◌, true≢false, refl, sym, ap, subst, ◌∙◌, append-nil}
use Rattle.vt_can.specs.lines.Actions.{ActionValue, action_value}
use Rattle.vt_server.specs.operator.ActionContracts.{TakesAction, happens}
use Rattle.vt_server.specs.Outputs.{outputs_of}
use Rattle.vt_server.specs.States.{TakesInput}
use Rattle.vt_server.specs.Steps.{ActionAt, selecting, has_no_set, no_set, with_shown_updated, sent_by_shown_update, no_step, step_action}
use Rattle.vt_server.specs.Terminals.{State, after_acts, sent_by_acts}
use Rattle.vt_server.specs.declared.input.Input.TheVariants as inputs
use Rattle.vt_server.specs.declared.output.Output.{Output}
use Rattle.vt_can.specs.declared.lines.line.Action as line
use Rattle.vt_server.proofs.lemmas.frame.FrameEffect.{outputs-append}

pub takes-same : (s : State) (a b : ActionValue) (t u : State) (before first out last : List Output) → a ≡ b → t ≡ u → before ≡ first → out ≡ last
    → TakesAction s a t before out → TakesAction s b u first last
takes-same s a b t u before first out last e f g h takes =
    subst (λ (x : ActionValue). TakesAction s x u first last) e
    (subst (λ (x : State). TakesAction s a x first last) f
    (subst (λ (x : List Output). TakesAction s a t x last) g (subst (λ (x : List Output). TakesAction s a t before x) h takes)))

-- what an action sends, after what was sent before it
pub takes-after : {s t : State} {action : ActionValue} {before after sent : List Output} → TakesAction s action t [] sent → after ≡ before ++ sent
    → TakesAction s action t before after
takes-after {before = before} takes is =
    record { shown = takes.shown; seen = takes.seen; state = takes.state; sent = is ∙ ap (λ l. before ++ l) takes.sent }

pub takes-lost : (s : State) (action : line.Action) (before : List Output) → s.lost ≡ true → TakesInput s (inputs.Operator action) s before before
takes-lost s action before lost = record {
  event = ActionAt (action_value action) false;
  is_input = refl;
  judged = λ not_lost. absurd (true≢false (sym lost ∙ not_lost));
  state = sym (ap (λ b. (cond b (no_step s) (step_action s (action_value action) false)).after) lost);
  sent = sym (ap (λ b. before ++ outputs_of (cond b (no_step s) (step_action s (action_value action) false)).sent) lost ∙ append-nil before);
}

pub takes-input : (s t new : State) (action : line.Action) (before middle after : List Output) → s.lost ≡ false → TakesAction s (action_value action) t before middle
    → new ≡ with_shown_updated t → after ≡ middle ++ outputs_of (sent_by_shown_update s t) → TakesInput s (inputs.Operator action) new before after
takes-input s t new action before middle after lost takes state sent =
    let u = selecting s (action_value action) in
    let acts = happens s (action_value action) takes.shown in
    let first = no_set (has_no_set s (action_value action)) ++ sent_by_acts u acts in
    record {
      event = ActionAt (action_value action) takes.shown;
      is_input = refl;
      judged = λ not_lost. takes.seen;
      state = state ∙ ap with_shown_updated takes.state ∙ sym (ap (λ b. (cond b (no_step s) (step_action s (action_value action) takes.shown)).after) lost);
      sent =
          sent ∙ (λ i. takes.sent i ++ outputs_of (sent_by_shown_update s (takes.state i)))
          ∙ append_assoc before (outputs_of first) (outputs_of (sent_by_shown_update s (after_acts u acts)))
          ∙ ap (λ l. before ++ l) (sym (outputs-append first (sent_by_shown_update s (after_acts u acts))))
          ∙ sym (ap (λ b. before ++ outputs_of (cond b (no_step s) (step_action s (action_value action) takes.shown)).sent) lost);
    }
