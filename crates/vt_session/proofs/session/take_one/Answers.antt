use Rattle.std.proofs.Common.{◌≡◌, List, [], ◌∷◌, inl, inr, refl, sym, ap, subst, ◌∙◌}
use Rattle.std.specs.Prelude.{IsSomeAnd}
use Rattle.vt_server.specs.declared.output.Output.{Output}
use Rattle.vt_server.specs.declared.terminal.Terminal.{Terminal}
use Rattle.vt_server.specs.States.{state_of, TakesInput, TakesInputs}
use Rattle.vt_session.specs.declared.session.Session.{Session}
use Rattle.vt_session.specs.Looks.{IsUntouched, next_look}
use Rattle.vt_session.specs.Sessions.{HasTaken}
use Rattle.vt_session.proofs.Looks.{by_note}
use Rattle.vt_session.proofs.Takings.{observed_by, one_taken, told_by}
use Rattle.vt_session.proofs.session.take_one.Goals as goal

pub returns-in-Ok-step : goal.returns-in-Ok-step
returns-in-Ok-step c =
    let before = c.args.session.now in
    let old = state_of before.terminal in
    let new = state_of c.step.new.self in
    let input = c.args.input.now in
    let sent = c.step.new.outputs.items in
    let steps : TakesInputs old (input ∷ []) new [] sent =
    one_taken old new input [] sent (subst (λ (waiting : List Output). TakesInput old input new waiting sent) c.requires.none c.in-Ok-step.ensures.ok) in
    let after : Session = record before {
      terminal = c.step.new.self;
      outputs = c.step.new.outputs;
      observer = c.tell.new.session.observer;
      looks = c.note_look.new.session.looks;
    } in
    let is : c.note_look.new.session ≡ after =
    c.note_look.ensures.rest ∙ ap (λ (s : Session). record s { looks = c.note_look.new.session.looks }) c.tell.ensures.rest in
    let here : c.note_look.new.session.terminal ≡ c.step.new.self = ap (λ (s : Session). s.terminal) is in
    let looked : c.tell.new.session.looks ≡ before.looks = ap (λ (s : Session). s.looks) c.tell.ensures.rest in
    let taken : HasTaken before (input ∷ []) after = record {
      steps = steps;
      promise = λ pools force. c.the_machine_never_sticks.ensures.inputs pools old (input ∷ []) new [] _ force steps;
      events = record {
        seen = c.look.new.self;
        observed = observed_by old input c.moment_of-time.result.0 _ c.look.new.self c.moment_of-time.ensures.time c.moment_of-time.ensures.frame c.in-Ok.ensures.ok;
        told = told_by input _ c.look.new.self sent c.step.new.self c.tell.new.session.observer c.moment_of-time.ensures.frame c.tell.ensures.told;
        end = λ one. c.in-Ok-step.ensures.told;
      };
      all_wait = c.requires.first;
      screen = c.in-Ok-step.ensures.same;
      look = elim c.note_look.ensures.look [
        | inl (same, noted) ↦ inl (
          same ∙ looked,
          by_note c.others_keep_objects.ensures c.profiles_are_kept.ensures old new input c.shown-was.result c.source_of.result [] _
              c.shown-was.ensures c.source_of.ensures steps
              (subst (λ (t : Terminal). IsSomeAnd c.source_of.result (λ s. IsUntouched c.shown-was.result (state_of t) s)) here noted),
        )
        | inr next ↦ inr (next ∙ ap next_look looked)
      ];
      begun = refl;
      text = refl;
    } in
    inl (refl, subst (λ (s : Session). HasTaken before (input ∷ []) s) (sym is) taken)
