-- All right judgements of an input give one step.
use Rattle.std.proofs.Common.{◌≡◌, ℕ, Bool, true, false, cond, eqb, List, [], ◌∷◌, ◌++◌, Option, Some, None, refl, sym, ap, ap₂, subst, ◌∙◌}
use Rattle.std.specs.Prelude.{Decides, IfSome}
use Rattle.std.proofs.lemmas.Bool.Decides.{same_from_decides}
use Rattle.vt_can.specs.declared.frames.frame.Frame.{Frame}
use Rattle.vt_can.specs.frames.Frame.{source_of}
use Rattle.vt_can.specs.lines.Actions.{ActionValue, Press, Release, Select, Number, Text, action_value}
use Rattle.vt_can.specs.lines.Actions as actions
use Rattle.vt_machine.specs.SetStates.{SetState, active_in}
use Rattle.vt_shown.specs.ShownElements.{IsShown}
use Rattle.vt_node.specs.Bus.{meaning_of}
use Rattle.vt_laws.specs.UniqueSteps.{StepsAreOne}
use Rattle.vt_server.specs.Judgements.{IsJudged, IsSeen, IsJudgedRight, AreJudgedRight, IsEventOf, AreEventsOf}
use Rattle.vt_server.specs.frame.TimeoutActs.{at_time, lapsed}
use Rattle.vt_server.specs.operator.ActionEffects.{action_on, object_acted_on}
use Rattle.vt_server.specs.Outputs.{outputs_of}
use Rattle.vt_server.specs.state.AddressViews.{AddressView, Act, Hears, Operates, AddressOutcome, after_action, after_operator, outcome}
use Rattle.vt_server.specs.States.{TakesInput, TakesInputs}
use Rattle.vt_server.specs.Steps.{JudgedInput, FrameAt, ActionAt, Step, step, after_all, sent_by_all, before, changes, heard_at_source, acts, answer_to, is_lost_by, defence, with_shown_updated, sent_by_shown_update, losing, acting, hearing, behind_lapses, no_step, step_frame, has_no_set, no_set, selecting, at_shown, step_action}
use Rattle.vt_server.specs.Terminals.{State, Sent, part, pool_at, put, to_address, after_acts, sent_by_acts}
use Rattle.vt_server.specs.message.Verdicts.{Verdict}
use Rattle.vt_node.specs.declared.bus.FrameMeaning.{FrameMeaning}
use Rattle.vt_node.specs.declared.bus.FrameMeaning.TheVariants.{Claim, ClaimRequest, Master, Member, Message, Tp, Etp, Nothing}
use Rattle.vt_server.specs.declared.input.Input.{Input}
use Rattle.vt_server.specs.declared.input.Input.TheVariants as inputs
use Rattle.vt_server.specs.declared.output.Output.{Output}
use Rattle.vt_laws.proofs.lemmas.judgements.OneVerdict.{Judging, heard-one}
use Rattle.vt_server.proofs.lemmas.acts.ComposedActs.{act-is, sent_by_one-is, acts-append, sent-append}

-- ---- lists of acts with the same effect

-- Two lists of acts have the same state after them and send the same.
record AreAlike (s : State) (hs ks : List (ℕ × Act)) : Type 0 where
  pub after : after_acts s hs ≡ after_acts s ks
  pub sent : sent_by_acts s hs ≡ sent_by_acts s ks

same-alike : (s : State) (hs : List (ℕ × Act)) → AreAlike s hs hs
same-alike s hs = record { after = refl; sent = refl }

one-alike : (s : State) (a : ℕ) (h k : Act) → outcome s.now a (part a s) h ≡ outcome s.now a (part a s) k → AreAlike s ((a, h) ∷ []) ((a, k) ∷ [])
one-alike s a h k same = record {
  after = act-is s a h ∙ ap (λ (o : AddressOutcome). put a o s) same ∙ sym (act-is s a k);
  sent = ap (λ (l : List Sent). l ++ []) (sent_by_one-is s a h ∙ ap (to_address a) same ∙ sym (sent_by_one-is s a k));
}

behind-alike : (s : State) (hs ks ls : List (ℕ × Act)) → AreAlike (after_acts s hs) ks ls → AreAlike s (hs ++ ks) (hs ++ ls)
behind-alike s hs ks ls alike = record {
  after = acts-append s hs ks ∙ alike.after ∙ sym (acts-append s hs ls);
  sent = sent-append s hs ks ∙ ap (λ (l : List Sent). sent_by_acts s hs ++ l) alike.sent ∙ sym (sent-append s hs ls);
}

-- ---- an action of the operator

-- The judgement whether an object is shown, if there is a pool.
abbrev pub IsSeenIn : Option SetState → Option ℕ → Bool → Type 0
IsSeenIn o object shown = IfSome object (λ id. IfSome o (λ state. Decides shown (IsShown state.objects (active_in state.objects) id)))

action-one : (state : SetState) (action : ActionValue) (b d : Bool) → IsSeenIn (Some state) (object_acted_on action) b → IsSeenIn (Some state) (object_acted_on action) d
    → action_on state b action ≡ action_on state d action
action-one state (Press id) b d seen too = ap (λ (x : Bool). action_on state x (Press id)) (same_from_decides b d seen too)
action-one state (Release id) b d seen too = refl
action-one state (Select id) b d seen too = ap (λ (x : Bool). action_on state x (Select id)) (same_from_decides b d seen too)
action-one state (Number id n) b d seen too = ap (λ (x : Bool). action_on state x (Number id n)) (same_from_decides b d seen too)
action-one state (Text id text) b d seen too = ap (λ (x : Bool). action_on state x (Text id text)) (same_from_decides b d seen too)
action-one state (actions.Set a) b d seen too = refl

pub operator-one : (now a : ℕ) (p : AddressView) (action : ActionValue) (b d : Bool) (o : Option SetState) → IsSeenIn o (object_acted_on action) b → IsSeenIn o (object_acted_on action) d
    → after_operator now a p action b o ≡ after_operator now a p action d o
operator-one now a p action b d None seen too = refl
operator-one now a p action b d (Some state) seen too = ap (after_action now a p) (action-one state action b d seen too)

shown-alike : (s : State) (o : Option ℕ) (action : ActionValue) (b d : Bool) → IsSeenIn (pool_at s o) (object_acted_on action) b → IsSeenIn (pool_at s o) (object_acted_on action) d
    → AreAlike s (at_shown o (Operates action b)) (at_shown o (Operates action d))
shown-alike s None action b d seen too = same-alike s []
shown-alike s (Some a) action b d seen too =
    one-alike s a (Operates action b) (Operates action d) (operator-one s.now a (part a s) action b d (part a s).place.content.pool seen too)

-- The selection of another set needs no shown object.
selected-seen : (s : State) (action : ActionValue) (b : Bool) → IsSeen s (object_acted_on action) b → IsSeenIn (pool_at (selecting s action) s.shown) (object_acted_on action) b
selected-seen s (Press id) b seen = seen
selected-seen s (Release id) b seen = tt
selected-seen s (Select id) b seen = seen
selected-seen s (Number id n) b seen = seen
selected-seen s (Text id text) b seen = seen
selected-seen s (actions.Set a) b seen = tt

action-steps-one : (s : State) (action : ActionValue) (b d : Bool) → IsSeen s (object_acted_on action) b → IsSeen s (object_acted_on action) d → step_action s action b ≡ step_action s action d
action-steps-one s action b d seen too =
    let alike = shown-alike (selecting s action) s.shown action b d (selected-seen s action b seen) (selected-seen s action d too) in
    ap₂ by_action alike.after alike.sent
  where
    by_action : State → List Sent → Step
    by_action t sent = record { after = with_shown_updated t; sent = (no_set (has_no_set s action) ++ sent) ++ sent_by_shown_update s t }

-- ---- events of an input

frame-is : (time at : ℕ) (f heard : Frame) (v : Verdict) → at ≡ time → heard ≡ f → FrameAt at heard v ≡ FrameAt time f v
frame-is time at f heard v same alike = ap₂ (λ (t : ℕ) (g : Frame). FrameAt t g v) same alike

module _ (judging : Judging) where
  -- ---- a frame

  heard-alike : (s : State) (own source : ℕ) (n : FrameMeaning) (f : Frame) (v w : Verdict)
      → outcome s.now source (part source s) (Hears n f v) ≡ outcome s.now source (part source s) (Hears n f w)
      → AreAlike s (heard_at_source own source n f v) (heard_at_source own source n f w)
  heard-alike s own source n f v w same = cases (eqb source own)
    where
      cases : (b : Bool) → AreAlike s (cond b [] ((source, Hears n f v) ∷ [])) (cond b [] ((source, Hears n f w) ∷ []))
      cases true = same-alike s []
      cases false = one-alike s source (Hears n f v) (Hears n f w) same

  one-heard : (s : State) (source : ℕ) (n : FrameMeaning) (f : Frame) (v w : Verdict) → IsJudged s.now source (part source s) n f v → IsJudged s.now source (part source s) n f w
      → AreAlike s (heard_at_source s.claims.own source n f v) (heard_at_source s.claims.own source n f w)
  one-heard s source n f v w judged too = heard-alike s s.claims.own source n f v w (heard-one judging s.now source (part source s) n f v w judged too)

  -- A claim does not depend on the verdict.
  acts-alike : (s : State) (source : ℕ) (n : FrameMeaning) (f : Frame) (v w : Verdict) → IsJudged s.now source (part source s) n f v → IsJudged s.now source (part source s) n f w
      → AreAlike (before s source n) (acts s source n f v) (acts s source n f w)
  acts-alike s source (Claim name) f v w judged too =
      let t = before s source (Claim name) in
      let hs = changes s source (Claim name) in
      behind-alike t hs (heard_at_source s.claims.own source (Claim name) f v) (heard_at_source s.claims.own source (Claim name) f w)
      (heard-alike (after_acts t hs) s.claims.own source (Claim name) f v w refl)
  acts-alike s source ClaimRequest f v w judged too = one-heard s source ClaimRequest f v w judged too
  acts-alike s source (Master count) f v w judged too = one-heard s source (Master count) f v w judged too
  acts-alike s source (Member name) f v w judged too = one-heard s source (Member name) f v w judged too
  acts-alike s source Message f v w judged too = one-heard s source Message f v w judged too
  acts-alike s source Tp f v w judged too = one-heard s source Tp f v w judged too
  acts-alike s source Etp f v w judged too = one-heard s source Etp f v w judged too
  acts-alike s source Nothing f v w judged too = one-heard s source Nothing f v w judged too

  hearing-one : (old s : State) (source : ℕ) (n : FrameMeaning) (f : Frame) (v w : Verdict) → IsJudged s.now source (part source s) n f v → IsJudged s.now source (part source s) n f w
      → hearing old s source n f v ≡ hearing old s source n f w
  hearing-one old s source n f v w judged too = cases (is_lost_by (answer_to s source n))
    where
      alike : AreAlike (before s source n) (acts s source n f v) (acts s source n f w)
      alike = acts-alike s source n f v w judged too

      by_acts : State → List Sent → Step
      by_acts t sent = record { after = with_shown_updated t; sent = (defence s source n ++ sent) ++ sent_by_shown_update old t }

      cases : (b : Bool) → cond b (losing s) (acting old s source n f v) ≡ cond b (losing s) (acting old s source n f w)
      cases true = refl
      cases false = ap₂ by_acts alike.after alike.sent

  -- ---- a step

  frame-steps-one : (s : State) (time : ℕ) (f : Frame) (v w : Verdict) → IsJudgedRight s (FrameAt time f v) → IsJudgedRight s (FrameAt time f w) → step s (FrameAt time f v) ≡ step s (FrameAt time f w)
  frame-steps-one s time f v w found too = cases s.lost found too
    where
      t : State
      t = lapsed (at_time s time)

      n : FrameMeaning
      n = meaning_of s.claims.own s.claims.name f

      Is : Verdict → Type 0
      Is verdict = IsJudged t.now (source_of f) (part (source_of f) t) n f verdict

      cases : (b : Bool) → (b ≡ false → Is v) → (b ≡ false → Is w) → cond b (no_step s) (step_frame s time f v) ≡ cond b (no_step s) (step_frame s time f w)
      cases true judged alike = refl
      cases false judged alike = ap (behind_lapses (at_time s time)) (hearing-one s t (source_of f) n f v w (judged refl) (alike refl))

  shown-steps-one : (s : State) (action : ActionValue) (b d : Bool) → IsJudgedRight s (ActionAt action b) → IsJudgedRight s (ActionAt action d) → step s (ActionAt action b) ≡ step s (ActionAt action d)
  shown-steps-one s action b d found too = cases s.lost found too
    where
      cases : (l : Bool) → (l ≡ false → IsSeen s (object_acted_on action) b) → (l ≡ false → IsSeen s (object_acted_on action) d)
          → cond l (no_step s) (step_action s action b) ≡ cond l (no_step s) (step_action s action d)
      cases true seen alike = refl
      cases false seen alike = action-steps-one s action b d (seen refl) (alike refl)

  event-one : (s : State) (input : Input) (e f : JudgedInput) → IsEventOf input e → IsEventOf input f → IsJudgedRight s e → IsJudgedRight s f → step s e ≡ step s f
  event-one s (inputs.Frame time frame) (FrameAt at heard v) (FrameAt when other w) is alike found too =
      let first = frame-is time at frame heard v is.0 is.1 in
      let second = frame-is time when frame other w alike.0 alike.1 in
      ap (step s) first ∙ frame-steps-one s time frame v w (subst (IsJudgedRight s) first found) (subst (IsJudgedRight s) second too) ∙ sym (ap (step s) second)
  event-one s (inputs.Frame time frame) (FrameAt at heard v) (ActionAt action shown) is alike found too = absurd alike
  event-one s (inputs.Frame time frame) (ActionAt action shown) f is alike found too = absurd is
  event-one s (inputs.Operator action) (ActionAt value b) (ActionAt other d) is alike found too =
      let first = ap (λ (x : ActionValue). ActionAt x b) is in
      let second = ap (λ (x : ActionValue). ActionAt x d) alike in
      ap (step s) first ∙ shown-steps-one s (action_value action) b d (subst (IsJudgedRight s) first found) (subst (IsJudgedRight s) second too) ∙ sym (ap (step s) second)
  event-one s (inputs.Operator action) (ActionAt value b) (FrameAt at heard v) is alike found too = absurd alike
  event-one s (inputs.Operator action) (FrameAt at heard v) f is alike found too = absurd is

  -- ---- inputs one after the other

  record AllAlike (s : State) (es fs : List JudgedInput) : Type 0 where
    pub after : after_all s es ≡ after_all s fs
    pub sent : sent_by_all s es ≡ sent_by_all s fs

  events-one : (s : State) (inputs : List Input) (es fs : List JudgedInput) → AreEventsOf inputs es → AreEventsOf inputs fs → AreJudgedRight s es → AreJudgedRight s fs → AllAlike s es fs
  events-one s [] [] [] are too found alike = record { after = refl; sent = refl }
  events-one s [] [] (f ∷ fs) are too found alike = absurd too
  events-one s [] (e ∷ es) fs are too found alike = absurd are
  events-one s (input ∷ inputs) [] fs are too found alike = absurd are
  events-one s (input ∷ inputs) (e ∷ es) [] are too found alike = absurd too
  events-one s (input ∷ inputs) (e ∷ es) (f ∷ fs) are too found alike =
      let first = event-one s input e f are.0 too.0 found.0 alike.0 in
      let moved = subst (λ (t : Step). AreJudgedRight t.after fs) (sym first) alike.1 in
      let rest = events-one (step s e).after inputs es fs are.1 too.1 found.1 moved in
      record {
        after = rest.after ∙ ap (λ (t : Step). after_all t.after fs) first;
        sent = ap (λ (l : List Sent). (step s e).sent ++ l) rest.sent ∙ ap (λ (t : Step). t.sent ++ sent_by_all t.after fs) first;
      }

  input-one : (old : State) (input : Input) (new other : State) (before after later : List Output) → TakesInput old input new before after → TakesInput old input other before later
      → (new ≡ other) × (after ≡ later)
  input-one old input new other before after later is too =
      let same = event-one old input is.event too.event is.is_input too.is_input is.judged too.judged in (
        is.state ∙ ap (λ (t : Step). t.after) same ∙ sym too.state,
        is.sent ∙ ap (λ (t : Step). before ++ outputs_of t.sent) same ∙ sym too.sent,
      )

  inputs-one : (old : State) (inputs : List Input) (new other : State) (before after later : List Output) → TakesInputs old inputs new before after
      → TakesInputs old inputs other before later → (new ≡ other) × (after ≡ later)
  inputs-one old inputs new other before after later is too =
      let same = events-one old inputs is.events too.events is.are_inputs too.are_inputs is.judged too.judged in (
        is.state ∙ same.after ∙ sym too.state,
        is.sent ∙ ap (λ (l : List Sent). before ++ outputs_of l) same.sent ∙ sym too.sent,
      )

  pub steps-one : StepsAreOne
  steps-one = record { events = event-one; input = input-one; inputs = inputs-one }
