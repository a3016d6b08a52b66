-- After each step the pools accepted last are in force and its runs end in time; the same holds for every list of inputs.
use Rattle.std.proofs.Common.{◌≡◌, ℕ, Bool, true, false, cond, nat_eq, eqb, List, [], ◌∷◌, ◌++◌, map, Option, Some, None, is_some, refl, sym, subst, ◌∙◌, inl, inr, ◌⊎◌}
use Rattle.std.specs.Prelude.{IfSome}
use Rattle.std.specs.List.{filter}
use Rattle.std.specs.Option.{option_eq}
use Rattle.vt_can.specs.Assigned.{TP_TIMEOUT, ETP_TIMEOUT, SENDER_TIMEOUT}
use Rattle.vt_can.specs.declared.frames.frame.Frame.{Frame}
use Rattle.vt_can.specs.frames.Frame.{source_of}
use Rattle.vt_can.specs.lines.Actions.{ActionValue, Press, Release, Select, Number, Text}
use Rattle.vt_can.specs.lines.Actions as actions
use Rattle.vt_can.specs.transport.Sessions.{is_overdue}
use Rattle.vt_names.specs.Registry.{Set}
use Rattle.vt_stores.specs.Stores.{ObjectMap, map_of}
use Rattle.vt_machine.specs.SetStates.{SetState}
use Rattle.vt_layout.specs.Drawings.{at_path, key_entries, mask_entries, origin}
use Rattle.vt_node.specs.Bus.{meaning_of}
use Rattle.vt_server.specs.shown.ShownSet.{choosing, shown_now, events_of_change, raised_at, ACTIVATE, DEACTIVATE}
use Rattle.vt_server.specs.Judgements.{IsJudged, IsJudgedRight, AreJudgedRight, ends_transfer}
use Rattle.vt_laws.specs.Headline.{Pools, IsPoolInForce, ArePoolsInForce, accepted_at, accepted_with, accepted_by_acts, accepted_in_hearing, accepted_after, accepted_after_all, Run, AllEnd, DrawsWhatIsThere, EventsKeep, KeepsPromise, NeverSticks, runs_at, runs_of_acts, runs_of_shown_update, runs_of_hearing, runs_of_operating, runs}
use Rattle.vt_server.specs.frame.TimeoutActs.{at_time, lapsed, silences, set_is_silent, tp_due, etp_due, sending_due, after_tp_timeouts, after_etp_timeouts, after_timeouts}
use Rattle.vt_server.specs.state.AddressViews.{AddressView, Act, Hears, Rebinds, Preloads, TpExpires, EtpExpires, SendingExpires, FallsSilent, Operates, Raises, AddressOutcome, outcome}
use Rattle.vt_server.specs.state.AddressStates.{empty, AddressState}
use Rattle.vt_server.specs.States.{TakesInputs}
use Rattle.vt_server.specs.Steps.{JudgedInput, FrameAt, ActionAt, step, after_all, before, acts, acted, answer_to, is_lost_by, changes, heard_at_source, with_shown_updated, losing, acting, hearing, no_step, step_frame, selecting, at_shown, step_action}
use Rattle.vt_server.specs.Terminals.{State, pool_of, part, put, after_act, after_acts}
use Rattle.vt_node.specs.AddressFunctions.{with_at}
use Rattle.vt_server.specs.message.Verdicts.{Verdict}
use Rattle.vt_node.specs.declared.bus.FrameMeaning.{FrameMeaning}
use Rattle.vt_node.specs.declared.bus.FrameMeaning.TheVariants.{Claim, ClaimRequest, Master, Member, Message, Tp, Etp, Nothing}
use Rattle.vt_server.specs.declared.input.Input.{Input}
use Rattle.vt_server.specs.declared.output.Output.{Output}
use Rattle.vt_server.proofs.lemmas.acts.AddressedActs.{AllAt, at-append, at-below, at-changes, at-heard}
use Rattle.vt_laws.proofs.lemmas.runs.AtMostThreeRuns.{few-runs}
use Rattle.vt_server.proofs.lemmas.acts.ComposedActs.{act-is}
use Rattle.vt_laws.proofs.lemmas.runs.RunsOfActsEnd.{InTime, AllInTime, in-time-at, stays-at, heard-runs, act-runs}
use Rattle.vt_laws.proofs.lemmas.runs.NoRunSticks.{Laws, IsEach, MayHappen, act-keeps}
use Rattle.vt_macros.proofs.MacroTargetsExist.{all_append}

-- the acts that may happen in every state
abbrev pub IsPlain : ℕ → Act → Type 0
IsPlain a (Hears (Claim name) f verdict) = Unit {0}
IsPlain a (Hears n f verdict) = ⊥
IsPlain a (Raises event) = (event ≡ 2) ⊎ (event ≡ 1)
IsPlain a (Preloads contents) = ⊥
IsPlain a _ = Unit {0}

pub no-message : (o : Option Set) → ends_transfer o None ≡ true → ⊥
no-message None e = cc
no-message (Some set) e = cc

plain-may : (now a : ℕ) (p : AddressView) (h : Act) → IsPlain a h → MayHappen now a p h
plain-may now a p (Hears (Claim name) f verdict) plain = λ e. absurd (no-message p.set e)
plain-may now a p (Hears ClaimRequest f verdict) plain = absurd plain
plain-may now a p (Hears (Master count) f verdict) plain = absurd plain
plain-may now a p (Hears (Member name) f verdict) plain = absurd plain
plain-may now a p (Hears Message f verdict) plain = absurd plain
plain-may now a p (Hears Tp f verdict) plain = absurd plain
plain-may now a p (Hears Etp f verdict) plain = absurd plain
plain-may now a p (Hears Nothing f verdict) plain = absurd plain
plain-may now a p Rebinds plain = tt
plain-may now a p (Preloads contents) plain = absurd plain
plain-may now a p TpExpires plain = tt
plain-may now a p EtpExpires plain = tt
plain-may now a p SendingExpires plain = tt
plain-may now a p FallsSilent plain = tt
plain-may now a p (Operates action shown) plain = tt
plain-may now a p (Raises event) plain = plain

no-end : (o : Option Set) (verdict : Verdict) (last : Option ObjectMap) → accepted_with (ends_transfer o None) verdict last ≡ last
no-end None verdict last = refl
no-end (Some set) verdict last = refl

pub plain-accepts : (now a : ℕ) (p : AddressView) (h : Act) (last : Option ObjectMap) → IsPlain a h → accepted_at now a p h last ≡ last
plain-accepts now a p (Hears (Claim name) f verdict) last plain = no-end p.set verdict last
plain-accepts now a p (Hears ClaimRequest f verdict) last plain = absurd plain
plain-accepts now a p (Hears (Master count) f verdict) last plain = absurd plain
plain-accepts now a p (Hears (Member name) f verdict) last plain = absurd plain
plain-accepts now a p (Hears Message f verdict) last plain = absurd plain
plain-accepts now a p (Hears Tp f verdict) last plain = absurd plain
plain-accepts now a p (Hears Etp f verdict) last plain = absurd plain
plain-accepts now a p (Hears Nothing f verdict) last plain = absurd plain
plain-accepts now a p Rebinds last plain = refl
plain-accepts now a p (Preloads contents) last plain = absurd plain
plain-accepts now a p TpExpires last plain = refl
plain-accepts now a p EtpExpires last plain = refl
plain-accepts now a p SendingExpires last plain = refl
plain-accepts now a p FallsSilent last plain = refl
plain-accepts now a p (Operates action shown) last plain = refl
plain-accepts now a p (Raises event) last plain = refl

-- ---- the pools accepted at each address

pub plain-stay : (pools : Pools) (s : State) (hs : List (ℕ × Act)) → AllAt IsPlain hs → (q : ℕ) → accepted_by_acts s hs pools q ≡ pools q
plain-stay pools s [] plain q = refl
plain-stay pools s (h ∷ hs) plain q =
    let x = accepted_at s.now h.0 (part h.0 s) h.1 (pools h.0) in
    plain-stay (with_at h.0 x pools) (after_act s h.0 h.1) hs plain.1 q
    ∙ stays-at pools h.0 x (plain-accepts s.now h.0 (part h.0 s) h.1 (pools h.0) plain.0) q

at-each : (pools others : Pools) (s : State) → ((q : ℕ) → others q ≡ pools q) → ArePoolsInForce others s → ArePoolsInForce pools s
at-each pools others s same is q = subst (λ (last : Option ObjectMap). IsEach last (pool_of s q)) (same q) (is q)

pub silences-plain : (sets : List Set) → AllAt IsPlain (map (λ set. (set.address, FallsSilent)) sets)
silences-plain [] = tt
silences-plain (set ∷ sets) = (tt, silences-plain sets)

raised-plain : (o : Option ℕ) (event : ℕ) → (event ≡ 2) ⊎ (event ≡ 1) → AllAt IsPlain (raised_at o event)
raised-plain None event is = tt
raised-plain (Some a) event is = (is, tt)

pub change-plain : (was now : Option ℕ) → AllAt IsPlain (events_of_change was now)
change-plain was now = cases (option_eq nat_eq was now)
  where
    cases : (b : Bool) → AllAt IsPlain (cond b [] (raised_at was DEACTIVATE ++ raised_at now ACTIVATE))
    cases true = tt
    cases false = at-append IsPlain (raised_at was DEACTIVATE) (raised_at now ACTIVATE) (raised-plain was DEACTIVATE (inl refl)) (raised-plain now ACTIVATE (inr refl))

pub operated-plain : (o : Option ℕ) (action : ActionValue) (shown : Bool) → AllAt IsPlain (at_shown o (Operates action shown))
operated-plain None action shown = tt
operated-plain (Some a) action shown = (tt, tt)

if-some : {A : Type 0} {P : A → Type 0} (o : Option A) → ((x : A) → o ≡ Some x → P x) → IfSome o P
if-some None each = tt
if-some (Some x) each = each x refl

module _ (laws : Laws) where
  put-keeps : (pools : Pools) (s : State) (a : ℕ) (o : AddressOutcome) (x : Option ObjectMap) → ArePoolsInForce pools s → IsEach x o.place.content.pool
      → ArePoolsInForce (with_at a x pools) (put a o s)
  put-keeps pools s a o x is each q = cases (eqb q a)
    where
      cases : (b : Bool) → IsEach (cond b x (pools q)) (cond b o.place (s.places q)).content.pool
      cases true = each
      cases false = is q

  act-in-force : (pools : Pools) (s : State) (a : ℕ) (h : Act) → MayHappen s.now a (part a s) h → ArePoolsInForce pools s
      → ArePoolsInForce (with_at a (accepted_at s.now a (part a s) h (pools a)) pools) (after_act s a h)
  act-in-force pools s a h may is =
      let x = accepted_at s.now a (part a s) h (pools a) in
      subst (λ (t : State). ArePoolsInForce (with_at a x pools) t) (sym (act-is s a h))
      (put-keeps pools s a (outcome s.now a (part a s) h) x is (act-keeps laws (pools a) s.now a (part a s) h may (is a)))

  plain-in-force : (pools : Pools) (s : State) (a : ℕ) (h : Act) → IsPlain a h → ArePoolsInForce pools s → ArePoolsInForce pools (after_act s a h)
  plain-in-force pools s a h plain is =
      let x = accepted_at s.now a (part a s) h (pools a) in
      at-each pools (with_at a x pools) (after_act s a h)
      (stays-at pools a x (plain-accepts s.now a (part a s) h (pools a) plain))
      (act-in-force pools s a h (plain-may s.now a (part a s) h plain) is)

  acts-in-force : (pools : Pools) (s : State) (hs : List (ℕ × Act)) → AllAt IsPlain hs → ArePoolsInForce pools s → ArePoolsInForce pools (after_acts s hs)
  acts-in-force pools s [] plain is = is
  acts-in-force pools s (h ∷ hs) plain is = acts-in-force pools (after_act s h.0 h.1) hs plain.1 (plain-in-force pools s h.0 h.1 plain.0 is)

  acts-run : (pools : Pools) (s : State) (hs : List (ℕ × Act)) → AllAt IsPlain hs → ArePoolsInForce pools s → AllInTime pools (runs_of_acts s hs)
  acts-run pools s [] plain is = tt
  acts-run pools s (h ∷ hs) plain is =
      all_append (InTime pools) (runs_at s.now h.0 (part h.0 s) h.1) (runs_of_acts (after_act s h.0 h.1) hs)
      (act-runs laws pools h.0 s.now (part h.0 s) h.1 (is h.0))
      (acts-run pools (after_act s h.0 h.1) hs plain.1 (plain-in-force pools s h.0 h.1 plain.0 is))

  -- ---- the stages of a step

  lapsed-in-force : (pools : Pools) (s : State) → ArePoolsInForce pools s → ArePoolsInForce pools (lapsed s)
  unfolding lapsed
  lapsed-in-force pools s is =
      let t = after_tp_timeouts s in
      let u = after_etp_timeouts s in
      let v = after_timeouts s in
      acts-in-force pools v (silences v) (silences-plain (filter (set_is_silent v) v.sets))
      (acts-in-force pools u (sending_due u) (at-below IsPlain (λ a. is_overdue SENDER_TIMEOUT u.now (u.places a).sending) SendingExpires 256 (λ a lt. tt))
      (acts-in-force pools t (etp_due t) (at-below IsPlain (λ a. is_overdue ETP_TIMEOUT t.now (t.places a).etp) EtpExpires 256 (λ a lt. tt))
      (acts-in-force pools s (tp_due s) (at-below IsPlain (λ a. is_overdue TP_TIMEOUT s.now (s.places a).tp) TpExpires 256 (λ a lt. tt)) is)))

  shown_updated-in-force : (pools : Pools) (s : State) → ArePoolsInForce pools s → ArePoolsInForce pools (with_shown_updated s)
  unfolding with_shown_updated
  shown_updated-in-force pools s is = acts-in-force pools (choosing s) (events_of_change s.shown (shown_now s)) (change-plain s.shown (shown_now s)) is

  shown_update-runs : (pools : Pools) (s : State) → ArePoolsInForce pools s → AllInTime pools (runs_of_shown_update s)
  shown_update-runs pools s is = acts-run pools (choosing s) (events_of_change s.shown (shown_now s)) (change-plain s.shown (shown_now s)) is

  -- The acts of a frame whose source is judged rightly keep pools in force, and their runs end in time.
  record Happens (pools : Pools) (s : State) (hs : List (ℕ × Act)) : Type 0 where
    pub in_force : ArePoolsInForce (accepted_by_acts s hs pools) (after_acts s hs)
    pub run : AllInTime (accepted_by_acts s hs pools) (runs_of_acts s hs)

  plain-happen : (pools : Pools) (s : State) (hs : List (ℕ × Act)) → AllAt IsPlain hs → ArePoolsInForce pools s → Happens pools s hs
  plain-happen pools s hs plain is = record {
    in_force = at-each (accepted_by_acts s hs pools) pools (after_acts s hs) (λ q. sym (plain-stay pools s hs plain q)) (acts-in-force pools s hs plain is);
    run = in-time-at pools (accepted_by_acts s hs pools) (plain-stay pools s hs plain) (runs_of_acts s hs) (acts-run pools s hs plain is);
  }

  one-happens : (pools : Pools) (s : State) (source : ℕ) (n : FrameMeaning) (f : Frame) (verdict : Verdict) → IsJudged s.now source (part source s) n f verdict → ArePoolsInForce pools s
      → Happens pools s (heard_at_source s.claims.own source n f verdict)
  one-happens pools s source n f verdict judged is = cases (eqb source s.claims.own)
    where
      cases : (b : Bool) → Happens pools s (cond b [] ((source, Hears n f verdict) ∷ []))
      cases true = record { in_force = is; run = tt }
      cases false = record {
        in_force = act-in-force pools s source (Hears n f verdict) judged is;
        run =
            let later : Pools = with_at source (accepted_at s.now source (part source s) (Hears n f verdict) (pools source)) pools in
            all_append (InTime later) (runs_at s.now source (part source s) (Hears n f verdict)) []
            (heard-runs laws pools source s.now (part source s) n f verdict (is source)) tt;
      }

  frame-happens : (pools : Pools) (s : State) (source : ℕ) (n : FrameMeaning) (f : Frame) (verdict : Verdict) → IsJudged s.now source (part source s) n f verdict → ArePoolsInForce pools s
      → Happens pools (before s source n) (acts s source n f verdict)
  frame-happens pools s source (Claim name) f verdict judged is =
      plain-happen pools (before s source (Claim name)) (acts s source (Claim name) f verdict)
      (at-append IsPlain (changes s source (Claim name)) (heard_at_source s.claims.own source (Claim name) f verdict)
      (at-changes IsPlain (λ a. tt) s source (Claim name)) (at-heard IsPlain s.claims.own source (Claim name) f verdict tt))
      is
  frame-happens pools s source ClaimRequest f verdict judged is = one-happens pools s source ClaimRequest f verdict judged is
  frame-happens pools s source (Master count) f verdict judged is = one-happens pools s source (Master count) f verdict judged is
  frame-happens pools s source (Member name) f verdict judged is = one-happens pools s source (Member name) f verdict judged is
  frame-happens pools s source Message f verdict judged is = one-happens pools s source Message f verdict judged is
  frame-happens pools s source Tp f verdict judged is = one-happens pools s source Tp f verdict judged is
  frame-happens pools s source Etp f verdict judged is = one-happens pools s source Etp f verdict judged is
  frame-happens pools s source Nothing f verdict judged is = one-happens pools s source Nothing f verdict judged is

  -- ---- a step

  record Promised (runs : List Run) (pools : Pools) (after : State) : Type 0 where
    pub ends : AllInTime pools runs
    pub in_force : ArePoolsInForce pools after

  hearing-promised : (pools : Pools) (old s : State) (source : ℕ) (n : FrameMeaning) (f : Frame) (verdict : Verdict)
      → IsJudged s.now source (part source s) n f verdict → ArePoolsInForce pools s
      → Promised (runs_of_hearing s source n f verdict) (accepted_in_hearing s source n f verdict pools) (hearing old s source n f verdict).after
  hearing-promised pools old s source n f verdict judged is = cases (is_lost_by (answer_to s source n))
    where
      happens : Happens pools (before s source n) (acts s source n f verdict)
      happens = frame-happens pools s source n f verdict judged is

      t : State
      t = acted s source n f verdict

      later : Pools
      later = accepted_by_acts (before s source n) (acts s source n f verdict) pools

      cases : (b : Bool) → Promised (cond b [] (runs_of_acts (before s source n) (acts s source n f verdict) ++ runs_of_shown_update t)) (cond b pools later) (cond b (losing s) (acting old s source n f verdict)).after
      cases true = record { ends = tt; in_force = is }
      cases false = record {
        ends = all_append (InTime later) (runs_of_acts (before s source n) (acts s source n f verdict)) (runs_of_shown_update t) happens.run (shown_update-runs later t happens.in_force);
        in_force = shown_updated-in-force later t happens.in_force;
      }

  selecting-in-force : (pools : Pools) (s : State) (action : ActionValue) → ArePoolsInForce pools s → ArePoolsInForce pools (selecting s action)
  selecting-in-force pools s (Press id) is = is
  selecting-in-force pools s (Release id) is = is
  selecting-in-force pools s (Select id) is = is
  selecting-in-force pools s (Number id n) is = is
  selecting-in-force pools s (Text id text) is = is
  selecting-in-force pools s (actions.Set a) is = cases (is_some (pool_of s a))
    where
      cases : (b : Bool) → ArePoolsInForce pools (cond b (record s { selected = Some a }) s)
      cases true = is
      cases false = is

  step-promised : (pools : Pools) (s : State) (e : JudgedInput) → IsJudgedRight s e → ArePoolsInForce pools s → Promised (runs s e) (accepted_after s e pools) (step s e).after
  step-promised pools s (FrameAt time f verdict) found is = cases s.lost found
    where
      t : State
      t = lapsed (at_time s time)

      n : FrameMeaning
      n = meaning_of s.claims.own s.claims.name f

      cases : (b : Bool) → (b ≡ false → IsJudged t.now (source_of f) (part (source_of f) t) n f verdict)
          → Promised (cond b [] (runs_of_hearing t (source_of f) n f verdict)) (cond b pools (accepted_in_hearing t (source_of f) n f verdict pools)) (cond b (no_step s) (step_frame s time f verdict)).after
      cases true judged = record { ends = tt; in_force = is }
      cases false judged = hearing-promised pools s t (source_of f) n f verdict (judged refl) (lapsed-in-force pools (at_time s time) is)
  step-promised pools s (ActionAt action shown) found is = cases s.lost
    where
      u : State
      u = selecting s action

      hs : List (ℕ × Act)
      hs = at_shown s.shown (Operates action shown)

      selected : ArePoolsInForce pools u
      selected = selecting-in-force pools s action is

      operated : ArePoolsInForce pools (after_acts u hs)
      operated = acts-in-force pools u hs (operated-plain s.shown action shown) selected

      cases : (b : Bool) → Promised (cond b [] (runs_of_operating u hs)) pools (cond b (no_step s) (step_action s action shown)).after
      cases true = record { ends = tt; in_force = is }
      cases false = record {
        ends = all_append (InTime pools) (runs_of_acts u hs) (runs_of_shown_update (after_acts u hs)) (acts-run pools u hs (operated-plain s.shown action shown) selected) (shown_update-runs pools (after_acts u hs) operated);
        in_force = shown_updated-in-force pools (after_acts u hs) operated;
      }

  -- ---- lists of inputs

  record AllPromised (pools : Pools) (s : State) (es : List JudgedInput) : Type 0 where
    pub ends : AllEnd pools s es
    pub in_force : ArePoolsInForce (accepted_after_all s es pools) (after_all s es)

  all-promised : (pools : Pools) (s : State) (es : List JudgedInput) → AreJudgedRight s es → ArePoolsInForce pools s → AllPromised pools s es
  all-promised pools s [] found is = record { ends = tt; in_force = is }
  all-promised pools s (e ∷ es) found is =
      let first = step-promised pools s e found.0 is in
      let rest = all-promised (accepted_after s e pools) (step s e).after es found.1 first.in_force in
      record { ends = (record { each = first.ends; few = few-runs s e }, rest.ends); in_force = rest.in_force }

  drawn-in-force : (last : Option ObjectMap) (state : SetState) → IsPoolInForce last state → DrawsWhatIsThere state.objects
  drawn-in-force last state is =
      let nameless = laws.nameless is.accepted state.objects is.verified.stored is.ready in record {
        never_sticks = λ mask. laws.drawings state.objects mask is.ready.sound;
        finds_all = λ mask. laws.finds state.objects mask is.ready.sound;
        in_mask = λ mask path. if-some (at_path state.objects (mask_entries state.objects mask) origin path)
            (λ e there. laws.paths.in_mask state.objects mask path e is.ready.sound nameless there);
        of_keys = λ mask path. if-some (at_path state.objects (key_entries state.objects mask) origin path)
            (λ e there. laws.paths.of_keys state.objects mask path e is.ready.sound nameless there);
      }

  each-drawn : (last : Option ObjectMap) (o : Option SetState) → IsEach last o → IfSome o (λ state. DrawsWhatIsThere state.objects)
  each-drawn last None is = tt
  each-drawn last (Some state) is = drawn-in-force last state is

  none-yet : (s : State) → ((a : ℕ) → s.places a ≡ empty) → ArePoolsInForce (λ address. None) s
  none-yet s first q = subst (λ (p : AddressState). IsEach None p.content.pool) (sym (first q)) tt

  events-keep : (pools : Pools) (old : State) (events : List JudgedInput) → ArePoolsInForce pools old → AreJudgedRight old events → EventsKeep pools old events
  events-keep pools old events is found =
      let promised = all-promised pools old events found is in
      let later : Pools = accepted_after_all old events pools in
      record {
        runs_end = promised.ends;
        in_force = promised.in_force;
        drawn = λ address. each-drawn (later address) (pool_of (after_all old events) address) (promised.in_force address);
      }

  keeps : (pools : Pools) (old : State) (inputs : List Input) (new : State) (sent_before sent_after : List Output) → ArePoolsInForce pools old
      → TakesInputs old inputs new sent_before sent_after → KeepsPromise pools old inputs new sent_before sent_after
  keeps pools old inputs new sent_before sent_after is takes = record { takes = takes; keeps = events-keep pools old takes.events is takes.judged }

  pub never-sticks : NeverSticks
  never-sticks = record {
    first = none-yet;
    preloaded = λ pools s address pool verified is. act-in-force pools s address (Preloads (map_of pool)) (pool, verified, refl) is;
    events = events-keep;
    inputs = keeps;
  }
