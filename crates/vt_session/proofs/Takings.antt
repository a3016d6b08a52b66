-- The taking of one input.
use Rattle.std.proofs.Common.{◌≡◌, ℕ, ◌<◌, ◌^◌, true, true≢false, List, [], ◌∷◌, ◌++◌, take, inl, inr, Option, Some, None, sym, ap, subst, ◌∙◌, append-nil, Vec, Global}
use Rattle.vt_can.specs.declared.frames.frame.Frame.{Frame as CanFrame}
use Rattle.vt_can.specs.frames.Frame.{source_of}
use Rattle.vt_names.specs.Claims.{Claimed}
use Rattle.vt_names.specs.Registry.{Set, set_at}
use Rattle.vt_node.specs.Bus.{meaning_of}
use Rattle.vt_node.specs.declared.bus.FrameMeaning.{FrameMeaning}
use Rattle.vt_node.specs.declared.bus.FrameMeaning.TheVariants.{Nothing}
use Rattle.vt_host_events.specs.declared.observer.Observer.{Observer}
use Rattle.vt_host_events.specs.Events.{IsObserving, TellsEvents}
use Rattle.vt_laws.specs.Ticks.{EchoesAreTicks}
use Rattle.vt_server.specs.declared.input.Input.{Input}
use Rattle.vt_server.specs.declared.output.Output.{Output}
use Rattle.vt_server.specs.declared.terminal.Terminal.{Terminal}
use Rattle.vt_server.specs.declared.upload_end.UploadEnd.{UploadEnd}
use Rattle.vt_server.specs.frame.Deadlines.{echo}
use Rattle.vt_server.specs.frame.SessionEffects.{came}
use Rattle.vt_server.specs.frame.TimeoutActs.{at_time, lapsed}
use Rattle.vt_server.specs.Judgements.{ends_transfer}
use Rattle.vt_server.specs.message.UploadEnds.{IsEndOf, TellsEnd}
use Rattle.vt_server.specs.Outputs.{outputs_of}
use Rattle.vt_server.specs.States.{TakesInput, TakesInputs}
use Rattle.vt_server.specs.Steps.{step}
use Rattle.vt_server.specs.Terminals.{State, Sent}
use Rattle.vt_server.proofs.lemmas.steps.StepInvariants.{claims-lapsed}
use Rattle.vt_session.specs.declared.session.Session.{Session}
use Rattle.vt_session.specs.Inputs.{frame_of, time_of}
use Rattle.vt_session.specs.Sessions.{AnswersAtBy, AnswersAtOpen, AnswersBy, AnswersOpen, HasTaken, Takes, TakesBoth, Tells, closed, input_at}

-- A session without its outputs tells the events of inputs as the session itself does.
pub tells_cleared : (before : Session) (outputs : Vec Output Global) (inputs : List Input) (after : Session)
    → Tells (record before { outputs = outputs; next = 0 }) inputs after → Tells before inputs after
tells_cleared before outputs [] after told = absurd told
tells_cleared before outputs (first ∷ inputs) after told = record { seen = told.seen; observed = told.observed; told = told.told; end = told.end }

pub taken_cleared : (before : Session) (outputs : Vec Output Global) (inputs : List Input) (after : Session)
    → HasTaken (record before { outputs = outputs; next = 0 }) inputs after → HasTaken before inputs after
taken_cleared before outputs inputs after taken = record {
  steps = taken.steps;
  promise = taken.promise;
  events = tells_cleared before outputs inputs after taken.events;
  all_wait = taken.all_wait;
  screen = taken.screen;
  look = taken.look;
  begun = taken.begun;
  text = taken.text;
}

-- A session without its outputs takes what the session itself takes.
pub takes_cleared : (before : Session) (outputs : Vec Output Global) (inputs : List Input) (after : Session) (status : ℕ)
    → Takes (record before { outputs = outputs; next = 0 }) inputs after status → Takes before inputs after status
takes_cleared before outputs inputs after status (inl done) =
    inl (done.0, taken_cleared before outputs inputs after done.1)
takes_cleared before outputs inputs after status (inr lacks) =
    inr (lacks.0, record { not_lost = lacks.1.not_lost; state = lacks.1.state; redraws = lacks.1.redraws; waiting = lacks.1.waiting; latest = lacks.1.latest; look = lacks.1.look; begun = lacks.1.begun; text = lacks.1.text })

-- the answer of an open session to an input
pub answered : (before : Session) (input : Option Input) (given : Input) (after : Session) (status : ℕ) → None ≡ closed before → input ≡ Some given
    → Takes before (given ∷ []) after status → AnswersBy (closed before) before input after status
answered before input given after status open_now is takes =
    subst (λ (why : Option ℕ). AnswersBy why before input after status) open_now
    (subst (λ (i : Option Input). AnswersOpen before i after status) (sym is) takes)

-- A session without its outputs takes two inputs as the session itself does.
pub both_cleared : (before : Session) (outputs : Vec Output Global) (inputs : List Input) (after : Session) (status : ℕ)
    → TakesBoth (record before { outputs = outputs; next = 0 }) inputs after status → TakesBoth before inputs after status
both_cleared before outputs inputs after status (inl done) =
    inl (done.0, taken_cleared before outputs inputs after done.1)
both_cleared before outputs inputs after status (inr (refused, inl lacks)) =
    inr (refused, inl (record { not_lost = lacks.not_lost; state = lacks.state; redraws = lacks.redraws; waiting = lacks.waiting; latest = lacks.latest; look = lacks.look; begun = lacks.begun; text = lacks.text }))
both_cleared before outputs inputs after status (inr (refused, inr one)) =
    inr (refused, inr (taken_cleared before outputs (take 1 inputs) after one))

-- the answer of an open session to a time with an input
pub answered_at : (before : Session) (time : ℕ) (input : Option Input) (given : Input) (after : Session) (status : ℕ) → None ≡ closed before → input ≡ Some given
    → TakesBoth before (input_at before time given) after status → AnswersAtBy (closed before) before time input after status
answered_at before time input given after status open_now is takes =
    subst (λ (why : Option ℕ). AnswersAtBy why before time input after status) open_now
    (subst (λ (i : Option Input). AnswersAtOpen before time i after status) (sym is) takes)

-- One input is a list of inputs.
pub one_taken : (old new : State) (input : Input) (before after : List Output) → TakesInput old input new before after → TakesInputs old (input ∷ []) new before after
one_taken old new input before after taken = record {
  events = taken.event ∷ [];
  are_inputs = (taken.is_input, tt);
  judged = (taken.judged, tt);
  state = taken.state;
  sent = taken.sent ∙ ap (λ (sent : List Sent). before ++ outputs_of sent) (sym (append-nil (step old taken.event).sent));
}

-- ---- the moment of an input

pub observed_by : (s : State) (input : Input) (time : Option ℕ) (frame : Option CanFrame) (seen : Observer) → time ≡ time_of input → frame ≡ frame_of input
    → IsObserving s time frame seen → IsObserving s (time_of input) (frame_of input) seen
observed_by s input time frame seen when which is =
    subst (λ (t : Option ℕ). IsObserving s t (frame_of input) seen) when (subst (λ (f : Option CanFrame). IsObserving s time f seen) which is)

pub told_by : (input : Input) (frame : Option CanFrame) (seen : Observer) (sent : List Output) (after : Terminal) (new : Observer) → frame ≡ frame_of input
    → TellsEvents seen frame sent after new → TellsEvents seen (frame_of input) sent after new
told_by input frame seen sent after new which told = subst (λ (f : Option CanFrame). TellsEvents seen f sent after new) which told

-- ---- a tick ends no upload

none_ends : (o : Option Set) (P : Type 0) → ends_transfer o None ≡ true → P
none_ends None P ends = absurd (true≢false (sym ends))
none_ends (Some set) P ends = absurd (true≢false (sym ends))

pub tick_ends_none : EchoesAreTicks → (s : State) (time : ℕ) (told : Option UploadEnd) → s.claims.own < 2 ^ 8 → TellsEnd s time (echo s.claims.own) told
tick_ends_none law s time told fits kept ends =
    let t = lapsed (at_time s time) in
    let frame = echo s.claims.own in
    let nothing : meaning_of t.claims.own t.claims.name frame ≡ Nothing =
    ap (λ (k : Claimed). meaning_of k.own k.name frame) (claims-lapsed (at_time s time)) ∙ law.meaning s.claims.own s.claims.name fits in
    let none = ap (λ (n : FrameMeaning). (came t.now t.claims.own (source_of frame) (t.places (source_of frame)) n frame).message) nothing in
    none_ends (set_at (source_of frame) t.sets) (IsEndOf (t.places (source_of frame)).content told)
    (ap (λ (m : Option (List ℕ)). ends_transfer (set_at (source_of frame) t.sets) m) (sym none) ∙ ends)
