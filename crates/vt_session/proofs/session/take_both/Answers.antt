use Rattle.std.proofs.Common.{◌≡◌, ℕ, ◌<◌, ◌^◌, List, [], ◌∷◌, inl, inr, take, refl, sym, ap, subst, ◌∙◌, arith}
use Rattle.vt_can.specs.declared.frames.frame.Frame.{Frame as CanFrame}
use Rattle.vt_server.specs.declared.input.Input.TheVariants.{Frame}
use Rattle.vt_server.specs.declared.output.Output.{Output}
use Rattle.vt_server.specs.frame.Deadlines.{echo}
use Rattle.vt_server.specs.States.{state_of, TakesInputs}
use Rattle.vt_session.specs.declared.session.Session.{Session}
use Rattle.vt_session.specs.Inputs.{frame_of, tick_at}
use Rattle.vt_session.specs.Looks.{next_look}
use Rattle.vt_session.specs.Sessions.{HasTaken, input_at}
use Rattle.vt_session.proofs.Queue.{tick_alone}
use Rattle.vt_session.proofs.Takings.{observed_by, tick_ends_none, told_by}
use Rattle.vt_session.proofs.session.take_both.Goals as goal

pub returns-in-Ok-run : goal.returns-in-Ok-run
returns-in-Ok-run c =
    let before = c.args.session.now in
    let old = state_of before.terminal in
    let new = state_of c.run.new.self in
    let tick = tick_at before c.args.time in
    let inputs = input_at before c.args.time c.args.input in
    let sent = c.run.new.outputs.items in
    let echoed : c.echo-frame.result ≡ echo old.claims.own = c.echo-frame.ensures ∙ ap echo c.own.ensures in
    let steps : TakesInputs old inputs new [] sent =
    subst (λ (frame : CanFrame). TakesInputs old (Frame c.args.time frame ∷ c.args.input ∷ []) new [] sent) echoed
    (subst (λ (waiting : List Output). TakesInputs old (Frame c.args.time c.echo-frame.result ∷ c.args.input ∷ []) new waiting sent) c.requires.none c.in-Ok-run.ensures.ok) in
    let after : Session = record before {
      terminal = c.run.new.self;
      outputs = c.run.new.outputs;
      observer = c.tell.new.session.observer;
      looks = c.note_change.new.session.looks;
    } in
    let is : c.note_change.new.session ≡ after =
    c.note_change.ensures.rest ∙ ap (λ (s : Session). record s { looks = c.note_change.new.session.looks }) c.tell.ensures.rest in
    let looked : c.tell.new.session.looks ≡ before.looks = ap (λ (s : Session). s.looks) c.tell.ensures.rest in
    let when = c.moment_of-time.ensures.time in
    let which = c.moment_of-time.ensures.frame ∙ ap (λ (frame : CanFrame). frame_of (Frame c.args.time frame)) echoed in
    let taken : HasTaken before inputs after = record {
      steps = steps;
      promise = λ pools force. c.the_machine_never_sticks.ensures.inputs pools old inputs new [] _ force steps;
      events = record {
        seen = c.look.new.self;
        observed = observed_by old tick c.moment_of-time.result.0 _ c.look.new.self when which c.in-Ok.ensures.ok;
        told = told_by tick _ c.look.new.self sent c.run.new.self c.tell.new.session.observer which c.tell.ensures.told;
        end = λ one. tick_alone tick c.args.input one;
      };
      all_wait = c.requires.first;
      screen = c.in-Ok-run.ensures.same;
      look = inr (c.note_change.ensures.next ∙ ap next_look looked);
      begun = refl;
      text = refl;
    } in
    inl (refl, subst (λ (s : Session). HasTaken before inputs s) (sym is) taken)

-- The tick alone is taken.
pub returns-in-Err-run : goal.returns-in-Err-run
returns-in-Err-run c =
    let before = c.args.session.now in
    let old = state_of before.terminal in
    let new = state_of c.run.new.self in
    let tick = tick_at before c.args.time in
    let sent = c.run.new.outputs.items in
    let echoed : c.echo-frame.result ≡ echo old.claims.own = c.echo-frame.ensures ∙ ap echo c.own.ensures in
    let second : c.in-Err-run.fault.at ≡ 1 = omega (arith, c.in-Err-run.ensures.within, c.if-fault-gt0.true) in
    let one : TakesInputs old (Frame c.args.time c.echo-frame.result ∷ []) new before.outputs.items sent =
    subst (λ (n : ℕ). TakesInputs old (take n (Frame c.args.time c.echo-frame.result ∷ c.args.input ∷ [])) new before.outputs.items sent) second c.in-Err-run.ensures.fault in
    let steps : TakesInputs old (tick ∷ []) new [] sent =
    subst (λ (frame : CanFrame). TakesInputs old (Frame c.args.time frame ∷ []) new [] sent) echoed
    (subst (λ (waiting : List Output). TakesInputs old (Frame c.args.time c.echo-frame.result ∷ []) new waiting sent) c.requires.none one) in
    let after : Session = record before {
      terminal = c.run.new.self;
      outputs = c.run.new.outputs;
      observer = c.tell-in-Err-run.new.session.observer;
      looks = c.note_change-in-Err-run.new.session.looks;
    } in
    let is : c.note_change-in-Err-run.new.session ≡ after =
    c.note_change-in-Err-run.ensures.rest ∙ ap (λ (s : Session). record s { looks = c.note_change-in-Err-run.new.session.looks }) c.tell-in-Err-run.ensures.rest in
    let looked : c.tell-in-Err-run.new.session.looks ≡ before.looks = ap (λ (s : Session). s.looks) c.tell-in-Err-run.ensures.rest in
    let fits : old.claims.own < 2 ^ 8 = subst (λ (own : ℕ). own < 2 ^ 8) c.own.ensures c.own.type_inv in
    let when = c.moment_of-time.ensures.time in
    let which = c.moment_of-time.ensures.frame ∙ ap (λ (frame : CanFrame). frame_of (Frame c.args.time frame)) echoed in
    let taken : HasTaken before (tick ∷ []) after = record {
      steps = steps;
      promise = λ pools force. c.the_machine_never_sticks.ensures.inputs pools old (tick ∷ []) new [] _ force steps;
      events = record {
        seen = c.look.new.self;
        observed = observed_by old tick c.moment_of-time.result.0 _ c.look.new.self when which c.in-Ok.ensures.ok;
        told = told_by tick _ c.look.new.self sent c.run.new.self c.tell-in-Err-run.new.session.observer which c.tell-in-Err-run.ensures.told;
        end = λ alone. tick_ends_none c.echoes_are_ticks.ensures old c.args.time _ fits;
      };
      all_wait = c.requires.first;
      screen = c.in-Err-run.ensures.same;
      look = inr (c.note_change-in-Err-run.ensures.next ∙ ap next_look looked);
      begun = refl;
      text = refl;
    } in
    inr (refl, inr (subst (λ (s : Session). HasTaken before (tick ∷ []) s) (sym is) taken))
