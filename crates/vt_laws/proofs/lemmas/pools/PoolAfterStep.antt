-- The pool of each address after a step is the result of the runs there.
use Rattle.std.proofs.Common.{◌≡◌, ◌≢◌, ℕ, Bool, true, false, cond, eqb, List, [], ◌∷◌, ◌++◌, map, Option, Some, None, Result, Ok, Err, is_some, refl, sym, ap, subst, ◌∙◌, eq-eqb, ne_eqb}
use Rattle.std.proofs.lemmas.List.Elements.{filter-append}
use Rattle.std.specs.Prelude.{IfSome, IsSomeAnd}
use Rattle.std.specs.List.{AllByRecursion, filter}
use Rattle.vt_can.specs.Assigned.{TP_TIMEOUT, ETP_TIMEOUT, SENDER_TIMEOUT}
use Rattle.vt_can.specs.declared.frames.frame.Frame.{Frame}
use Rattle.vt_can.specs.declared.transport.sessions.Timed.{Timed}
use Rattle.vt_can.specs.frames.Frame.{source_of}
use Rattle.vt_can.specs.lines.Actions.{ActionValue, Press, Release, Select, Number, Text}
use Rattle.vt_can.specs.lines.Actions as actions
use Rattle.vt_can.specs.transport.Messages as transport
use Rattle.vt_can.specs.transport.Sessions.{each_below, is_overdue}
use Rattle.vt_names.specs.Registry.{Set}
use Rattle.vt_commands.specs.declared.command.Command.{Command}
use Rattle.vt_commands.specs.Commands.{command_at}
use Rattle.vt_stores.specs.Stores.{ObjectMap}
use Rattle.vt_effects.specs.Effects.{effect}
use Rattle.vt_machine.specs.SetStates.{SetState}
use Rattle.vt_machine.specs.OperatorActions as operating
use Rattle.vt_node.specs.Bus.{meaning_of}
use Rattle.vt_node.specs.AddressFunctions.{with_at}
use Rattle.vt_server.specs.shown.ShownSet.{choosing, shown_now, events_of_change}
use Rattle.vt_server.specs.frame.TimeoutActs.{at_time, lapsed, silences, set_is_silent, after_tp_timeouts, after_etp_timeouts, after_timeouts}
use Rattle.vt_server.specs.operator.ActionEffects.{action_on, is_busy}
use Rattle.vt_server.specs.state.AddressViews.{AddressView, Act, Hears, Rebinds, Preloads, TpExpires, EtpExpires, SendingExpires, FallsSilent, Operates, Raises, AddressOutcome, outcome}
use Rattle.vt_server.specs.state.AddressStates.{AddressState}
use Rattle.vt_server.specs.frame.SessionEffects.{came}
use Rattle.vt_server.specs.Steps.{JudgedInput, FrameAt, ActionAt, step, before, acts, acted, answer_to, is_lost_by, changes, heard_at_source, with_shown_updated, losing, acting, hearing, no_step, step_frame, selecting, at_shown, step_action}
use Rattle.vt_server.specs.Terminals.{State, pool_of, part, put, after_act, after_acts}
use Rattle.vt_server.specs.message.Verdicts.{Verdict}
use Rattle.vt_node.specs.declared.bus.FrameMeaning.{FrameMeaning}
use Rattle.vt_node.specs.declared.bus.FrameMeaning.TheVariants.{Claim, ClaimRequest, Master, Member, Message, Tp, Etp, Nothing}
use Rattle.vt_laws.specs.Headline.{Pools, Run, accepted_after, accepted_at, accepted_by_acts, accepted_in_hearing, runs_of_effect, runs_of_command, runs_of_message, runs_of_action, runs_of_operator, runs_of_event, runs_at, runs_of_acts, runs_of_shown_update, runs_of_hearing, runs_of_operating, runs}
use Rattle.vt_laws.specs.RunsOfSteps.{Lead, RunsAreOfSteps, objects_in, runs_there}
use Rattle.vt_server.proofs.lemmas.acts.AddressedActs.{AllAt, at-append, at-below, at-changes, at-heard}
use Rattle.vt_server.proofs.lemmas.acts.ComposedActs.{act-is}
use Rattle.vt_node.proofs.ByAddress.{at-own, at-other}
use Rattle.vt_names.proofs.AddressesAfterClaim.{by_eq}
use Rattle.vt_laws.proofs.lemmas.runs.CausesOfRuns.{are-begun}
use Rattle.vt_laws.proofs.lemmas.pools.PoolOfSource.{Holds, holds-there, holds-then, heard-holds}
use Rattle.vt_laws.proofs.lemmas.pools.PoolsInForce.{IsPlain, plain-accepts, plain-stay, silences-plain, change-plain, operated-plain}
use Rattle.vt_laws.proofs.lemmas.pools.PoolAfterAct.{Follows, follows-same, follows-then, MayFollow, act-follows}

-- ---- the addresses of runs

-- Each run is at the address.
abbrev pub AreAt : ℕ → List Run → Type 0
AreAt a rs = AllByRecursion (λ run. run.address ≡ a) rs

-- The run of a command is at the address of its set.
effect-at : (a : ℕ) (old : ObjectMap) (command : Command) (r : Result ObjectMap ℕ) → AreAt a (runs_of_effect a old command r)
effect-at a old command (Ok middle) = (refl, tt)
effect-at a old command (Err bits) = tt

command-at : (a : ℕ) (pool : Option SetState) (c : Option Command) → AreAt a (runs_of_command a pool c)
command-at a None c = tt
command-at a (Some state) None = tt
command-at a (Some state) (Some command) = effect-at a state.objects command (effect state.objects command)

message-at : (a : ℕ) (o : Option Set) (pool : Option SetState) (message : Option (List ℕ)) → AreAt a (runs_of_message a o pool message)
message-at a None pool message = tt
message-at a (Some set) pool None = tt
message-at a (Some set) pool (Some bytes) = command-at a pool (command_at bytes)

action-at : (a : ℕ) (sending : Option (Timed transport.Message)) (old : ObjectMap) (o : Option operating.ActionResult) → AreAt a (runs_of_action a sending old o)
action-at a sending old None = tt
action-at a sending old (Some (operating.Refused refusal)) = tt
action-at a sending old (Some (operating.Acts message start raised)) = cases (is_busy message sending)
  where
    cases : (b : Bool) → AreAt a (cond b [] (record { address = a; before = old; objects = start.objects; raised = raised } ∷ []))
    cases true = tt
    cases false = (refl, tt)

operator-at : (a : ℕ) (sending : Option (Timed transport.Message)) (o : Option SetState) (action : SetState → Option operating.ActionResult)
    → AreAt a (runs_of_operator a sending o action)
operator-at a sending None action = tt
operator-at a sending (Some state) action = action-at a sending state.objects (action state)

event-at : (a : ℕ) (o : Option SetState) (event : ℕ) → AreAt a (runs_of_event a o event)
event-at a None event = tt
event-at a (Some state) event = (refl, tt)

-- The runs of an act are at its address.
pub runs-at : (now a : ℕ) (p : AddressView) (h : Act) → AreAt a (runs_at now a p h)
runs-at now a p (Hears n f verdict) = message-at a p.set p.place.content.pool (came now p.terminal a p.place n f).message
runs-at now a p Rebinds = tt
runs-at now a p (Preloads contents) = tt
runs-at now a p TpExpires = tt
runs-at now a p EtpExpires = tt
runs-at now a p SendingExpires = tt
runs-at now a p FallsSilent = tt
runs-at now a p (Operates action shown) = operator-at a p.place.sending p.place.content.pool (λ state. action_on state shown action)
runs-at now a p (Raises event) = event-at a p.place.content.pool event

-- Runs at one address are all there, and none is elsewhere.
all-there : (a : ℕ) (rs : List Run) → AreAt a rs → runs_there a rs ≡ rs
all-there a [] at = refl
all-there a (run ∷ rs) at =
    ap (λ (b : Bool). cond b (run ∷ runs_there a rs) (runs_there a rs)) (eq-eqb run.address a at.0) ∙ ap (λ (l : List Run). run ∷ l) (all-there a rs at.1)

pub none-there : (a q : ℕ) (rs : List Run) → q ≢ a → AreAt a rs → runs_there q rs ≡ []
none-there a q [] other at = refl
none-there a q (run ∷ rs) other at =
    ap (λ (b : Bool). cond b (run ∷ runs_there q rs) (runs_there q rs)) (ne_eqb run.address q (λ (is : run.address ≡ q). other (sym is ∙ at.0))) ∙ none-there a q rs other at.1

-- ---- one act, at each address

-- A write at one address leaves the pools of the others unchanged.
put-follows : (s : State) (a q : ℕ) (o : AddressOutcome) (rs : List Run) → AreAt a rs → (q ≡ a → Follows (pool_of s a) rs o.place.content.pool)
    → Follows (pool_of s q) (runs_there q rs) (pool_of (put a o s) q)
put-follows s a q o rs at follows = by_eq q a here elsewhere
  where
    here : q ≡ a → Follows (pool_of s q) (runs_there q rs) (pool_of (put a o s) q)
    here same =
        subst (λ (r : ℕ). Follows (pool_of s r) (runs_there r rs) (pool_of (put a o s) r)) (sym same)
        (subst (λ (l : List Run). Follows (pool_of s a) l (pool_of (put a o s) a)) (sym (all-there a rs at))
        (subst (λ (p : AddressState). Follows (pool_of s a) rs p.content.pool) (sym (at-own a s.places o.place)) (follows same)))

    elsewhere : q ≢ a → Follows (pool_of s q) (runs_there q rs) (pool_of (put a o s) q)
    elsewhere other =
        subst (λ (l : List Run). Follows (pool_of s q) l (pool_of (put a o s) q)) (sym (none-there a q rs other at))
        (subst (λ (p : AddressState). Follows (pool_of s q) [] p.content.pool) (sym (at-other a q s.places o.place other)) (follows-same (pool_of s q)))

-- The pool of each address after an act is the result of the act's runs there.
one-follows : (s : State) (a : ℕ) (h : Act) (q : ℕ) → (q ≡ a → MayFollow s.now a (part a s) h)
    → Follows (pool_of s q) (runs_there q (runs_at s.now a (part a s) h)) (pool_of (after_act s a h) q)
one-follows s a h q may =
    let rs = runs_at s.now a (part a s) h in
    let o = outcome s.now a (part a s) h in
    subst (λ (t : State). Follows (pool_of s q) (runs_there q rs) (pool_of t q)) (sym (act-is s a h))
    (put-follows s a q o rs (runs-at s.now a (part a s) h) (λ same. act-follows s.now a (part a s) h (may same)))

-- An act that may happen in every state accepts no pool.
plain-may : (now a : ℕ) (p : AddressView) (h : Act) → IsPlain a h → MayFollow now a p h
plain-may now a p (Hears n f verdict) plain = λ last. plain-accepts now a p (Hears n f verdict) last plain
plain-may now a p Rebinds plain = λ last. refl
plain-may now a p (Preloads contents) plain = absurd plain
plain-may now a p TpExpires plain = λ last. refl
plain-may now a p EtpExpires plain = λ last. refl
plain-may now a p SendingExpires plain = λ last. refl
plain-may now a p FallsSilent plain = λ last. refl
plain-may now a p (Operates action shown) plain = λ last. refl
plain-may now a p (Raises event) plain = plain

-- Runs in sequence at one address.
more-follow : (x y z : Option SetState) (q : ℕ) (rs ss : List Run) → Follows x (runs_there q rs) y → Follows y (runs_there q ss) z
    → Follows x (runs_there q (rs ++ ss)) z
more-follow x y z q rs ss first second =
    subst (λ (l : List Run). Follows x l z) (sym (filter-append (λ (run : Run). eqb run.address q) rs ss))
    (follows-then x y z (runs_there q rs) (runs_there q ss) first second)

-- The pool of each address after acts that accept no pool is the result of their runs there.
acts-follow : (s : State) (hs : List (ℕ × Act)) (q : ℕ) → AllAt IsPlain hs → Follows (pool_of s q) (runs_there q (runs_of_acts s hs)) (pool_of (after_acts s hs) q)
acts-follow s [] q plain = follows-same (pool_of s q)
acts-follow s (h ∷ hs) q plain =
    let t = after_act s h.0 h.1 in
    more-follow (pool_of s q) (pool_of t q) (pool_of (after_acts t hs) q) q (runs_at s.now h.0 (part h.0 s) h.1) (runs_of_acts t hs)
    (one-follows s h.0 h.1 q (λ same. plain-may s.now h.0 (part h.0 s) h.1 plain.0)) (acts-follow t hs q plain.1)

-- ---- timeouts and closings

-- An act begins no run.
abbrev BeginsNone : ℕ → Act → Type 0
BeginsNone a h = (now : ℕ) (p : AddressView) → runs_at now a p h ≡ []

-- Acts that begin no run have no runs.
none-begun : (s : State) (hs : List (ℕ × Act)) → AllAt BeginsNone hs → runs_of_acts s hs ≡ []
none-begun s [] none = refl
none-begun s (h ∷ hs) none =
    let t = after_act s h.0 h.1 in ap (λ (l : List Run). l ++ runs_of_acts t hs) (none.0 s.now (part h.0 s)) ∙ none-begun t hs none.1

-- Without runs a pool is unchanged or removed.
lapse-follows : (s : State) (hs : List (ℕ × Act)) (q : ℕ) → AllAt IsPlain hs → AllAt BeginsNone hs → Follows (pool_of s q) [] (pool_of (after_acts s hs) q)
lapse-follows s hs q plain none =
    subst (λ (l : List Run). Follows (pool_of s q) (runs_there q l) (pool_of (after_acts s hs) q)) (none-begun s hs none) (acts-follow s hs q plain)

-- The closing of a silent set begins no run.
silences-none : (sets : List Set) → AllAt BeginsNone (map (λ set. (set.address, FallsSilent)) sets)
silences-none [] = tt
silences-none (set ∷ sets) = (λ now p. refl, silences-none sets)

-- The timeouts of sessions change no pool.
due-follows : (s : State) (holds : ℕ → Bool) (what : Act) (q : ℕ) → ((a : ℕ) → IsPlain a what) → ((a : ℕ) → BeginsNone a what)
    → Follows (pool_of s q) [] (pool_of (after_acts s (each_below holds what 256)) q)
due-follows s holds what q plain none =
    lapse-follows s (each_below holds what 256) q (at-below IsPlain holds what 256 (λ a lt. plain a)) (at-below BeginsNone holds what 256 (λ a lt. none a))

-- All acts of a frame's time leave pools unchanged or remove them.
lapsed-follows : (s : State) (q : ℕ) → Follows (pool_of s q) [] (pool_of (lapsed s) q)
unfolding lapsed
lapsed-follows s q =
    let t = after_tp_timeouts s in
    let u = after_etp_timeouts s in
    let v = after_timeouts s in
    let w = after_acts v (silences v) in
    let tp = due-follows s (λ a. is_overdue TP_TIMEOUT s.now (s.places a).tp) TpExpires q (λ a. tt) (λ a now p. refl) in
    let etp = due-follows t (λ a. is_overdue ETP_TIMEOUT t.now (t.places a).etp) EtpExpires q (λ a. tt) (λ a now p. refl) in
    let sending = due-follows u (λ a. is_overdue SENDER_TIMEOUT u.now (u.places a).sending) SendingExpires q (λ a. tt) (λ a now p. refl) in
    let silence = lapse-follows v (silences v) q (silences-plain (filter (set_is_silent v) v.sets)) (silences-none (filter (set_is_silent v) v.sets)) in
    follows-then (pool_of s q) (pool_of t q) (pool_of w q) [] [] tp
    (follows-then (pool_of t q) (pool_of u q) (pool_of w q) [] [] etp
    (follows-then (pool_of u q) (pool_of v q) (pool_of w q) [] [] sending silence))

-- ---- a frame

-- The pool of each address after the events of a change of the shown set is the result of their runs.
shown_update-follows : (s : State) (q : ℕ) → Follows (pool_of s q) (runs_there q (runs_of_shown_update s)) (pool_of (with_shown_updated s) q)
unfolding with_shown_updated
shown_update-follows s q = acts-follow (choosing s) (events_of_change s.shown (shown_now s)) q (change-plain s.shown (shown_now s))

-- A write at one address leaves the pools of the others, and their runs, unchanged.
put-holds : (pools : Pools) (s : State) (a q : ℕ) (o : AddressOutcome) (x : Option ObjectMap) (rs : List Run) → AreAt a rs → Holds (pools q) [] (pool_of s q)
    → Holds x rs o.place.content.pool → Holds (with_at a x pools q) (runs_there q rs) (pool_of (put a o s) q)
put-holds pools s a q o x rs at there here = by_eq q a mine other
  where
    mine : q ≡ a → Holds (with_at a x pools q) (runs_there q rs) (pool_of (put a o s) q)
    mine same =
        subst (λ (r : ℕ). Holds (with_at a x pools r) (runs_there r rs) (pool_of (put a o s) r)) (sym same)
        (subst (λ (y : Option ObjectMap). Holds y (runs_there a rs) (pool_of (put a o s) a)) (sym (at-own a pools x))
        (subst (λ (l : List Run). Holds x l (pool_of (put a o s) a)) (sym (all-there a rs at))
        (subst (λ (p : AddressState). Holds x rs p.content.pool) (sym (at-own a s.places o.place)) here)))

    other : q ≢ a → Holds (with_at a x pools q) (runs_there q rs) (pool_of (put a o s) q)
    other not =
        subst (λ (y : Option ObjectMap). Holds y (runs_there q rs) (pool_of (put a o s) q)) (sym (at-other a q pools x not))
        (subst (λ (l : List Run). Holds (pools q) l (pool_of (put a o s) q)) (sym (none-there a q rs not at))
        (subst (λ (p : AddressState). Holds (pools q) [] p.content.pool) (sym (at-other a q s.places o.place not)) there))

-- Runs in sequence at one address, from the objects accepted last.
more-hold : (last : Option ObjectMap) (x z : Option SetState) (q : ℕ) (rs ss : List Run) → Holds last (runs_there q rs) x → Follows x (runs_there q ss) z
    → Holds last (runs_there q (rs ++ ss)) z
more-hold last x z q rs ss first second =
    subst (λ (l : List Run). Holds last l z) (sym (filter-append (λ (run : Run). eqb run.address q) rs ss))
    (holds-then last x z (runs_there q rs) (runs_there q ss) first second)

-- The pool of each address after a frame at its source is the result of the frame's runs, if the source is not the terminal.
one-heard : (pools : Pools) (s : State) (source : ℕ) (n : FrameMeaning) (f : Frame) (verdict : Verdict) (q : ℕ) → ((r : ℕ) → Holds (pools r) [] (pool_of s r))
    → Holds (accepted_by_acts s (heard_at_source s.claims.own source n f verdict) pools q)
    (runs_there q (runs_of_acts s (heard_at_source s.claims.own source n f verdict)))
    (pool_of (after_acts s (heard_at_source s.claims.own source n f verdict)) q)
one-heard pools s source n f verdict q is = cases (eqb source s.claims.own)
  where
    h : Act
    h = Hears n f verdict

    p : AddressView
    p = part source s

    x : Option ObjectMap
    x = accepted_at s.now source p h (pools source)

    own : Holds (with_at source x pools q) (runs_there q (runs_at s.now source p h)) (pool_of (after_act s source h) q)
    own =
        subst (λ (t : State). Holds (with_at source x pools q) (runs_there q (runs_at s.now source p h)) (pool_of t q)) (sym (act-is s source h))
        (put-holds pools s source q (outcome s.now source p h) x (runs_at s.now source p h) (runs-at s.now source p h) (is q)
        (heard-holds s.now source p n f verdict (pools source) (is source)))

    cases : (b : Bool) → Holds (accepted_by_acts s (cond b [] ((source, h) ∷ [])) pools q) (runs_there q (runs_of_acts s (cond b [] ((source, h) ∷ []))))
        (pool_of (after_acts s (cond b [] ((source, h) ∷ []))) q)
    cases true = is q
    cases false =
        let t = after_act s source h in
        more-hold (with_at source x pools q) (pool_of t q) (pool_of t q) q (runs_at s.now source p h) [] own (follows-same (pool_of t q))

-- The pool of each address after all acts of a frame is the result of their runs.
frame-holds : (pools : Pools) (s : State) (source : ℕ) (n : FrameMeaning) (f : Frame) (verdict : Verdict) (q : ℕ) → ((r : ℕ) → Holds (pools r) [] (pool_of s r))
    → Holds (accepted_by_acts (before s source n) (acts s source n f verdict) pools q)
    (runs_there q (runs_of_acts (before s source n) (acts s source n f verdict))) (pool_of (acted s source n f verdict) q)
frame-holds pools s source (Claim name) f verdict q is =
    let b = before s source (Claim name) in
    let hs = acts s source (Claim name) f verdict in
    let plain : AllAt IsPlain hs =
    at-append IsPlain (changes s source (Claim name)) (heard_at_source s.claims.own source (Claim name) f verdict)
    (at-changes IsPlain (λ a. tt) s source (Claim name)) (at-heard IsPlain s.claims.own source (Claim name) f verdict tt) in
    subst (λ (y : Option ObjectMap). Holds y (runs_there q (runs_of_acts b hs)) (pool_of (after_acts b hs) q)) (sym (plain-stay pools b hs plain q))
    (holds-then (pools q) (pool_of s q) (pool_of (after_acts b hs) q) [] (runs_there q (runs_of_acts b hs)) (is q) (acts-follow b hs q plain))
frame-holds pools s source ClaimRequest f verdict q is = one-heard pools s source ClaimRequest f verdict q is
frame-holds pools s source (Master count) f verdict q is = one-heard pools s source (Master count) f verdict q is
frame-holds pools s source (Member name) f verdict q is = one-heard pools s source (Member name) f verdict q is
frame-holds pools s source Message f verdict q is = one-heard pools s source Message f verdict q is
frame-holds pools s source Tp f verdict q is = one-heard pools s source Tp f verdict q is
frame-holds pools s source Etp f verdict q is = one-heard pools s source Etp f verdict q is
frame-holds pools s source Nothing f verdict q is = one-heard pools s source Nothing f verdict q is

-- The pool of each address after a frame is the result of its runs, whether the own address is lost or not.
hearing-holds : (pools : Pools) (old s : State) (source : ℕ) (n : FrameMeaning) (f : Frame) (verdict : Verdict) (q : ℕ)
    → ((r : ℕ) → Holds (pools r) [] (pool_of s r))
    → Holds (accepted_in_hearing s source n f verdict pools q) (runs_there q (runs_of_hearing s source n f verdict)) (pool_of (hearing old s source n f verdict).after q)
hearing-holds pools old s source n f verdict q is = cases (is_lost_by (answer_to s source n))
  where
    t : State
    t = acted s source n f verdict

    first : List Run
    first = runs_of_acts (before s source n) (acts s source n f verdict)

    last : Pools
    last = accepted_by_acts (before s source n) (acts s source n f verdict) pools

    cases : (b : Bool) → Holds (cond b pools last q) (runs_there q (cond b [] (first ++ runs_of_shown_update t))) (pool_of (cond b (losing s) (acting old s source n f verdict)).after q)
    cases true = is q
    cases false =
        more-hold (last q) (pool_of t q) (pool_of (with_shown_updated t) q) q first (runs_of_shown_update t) (frame-holds pools s source n f verdict q is) (shown_update-follows t q)

-- ---- a step

-- The selection of a set changes no pool.
selecting-same : (s : State) (action : ActionValue) (q : ℕ) → pool_of (selecting s action) q ≡ pool_of s q
selecting-same s (Press id) q = refl
selecting-same s (Release id) q = refl
selecting-same s (Select id) q = refl
selecting-same s (Number id n) q = refl
selecting-same s (Text id text) q = refl
selecting-same s (actions.Set a) q = cases (is_some (pool_of s a))
  where
    cases : (b : Bool) → pool_of (cond b (record s { selected = Some a }) s) q ≡ pool_of s q
    cases true = refl
    cases false = refl

-- The pool of each address after an action of the operator is the result of its runs.
operating-follows : (s : State) (action : ActionValue) (shown : Bool) (q : ℕ)
    → Follows (pool_of s q) (runs_there q (runs s (ActionAt action shown))) (pool_of (step s (ActionAt action shown)).after q)
operating-follows s action shown q = cases s.lost
  where
    u : State
    u = selecting s action

    hs : List (ℕ × Act)
    hs = at_shown s.shown (Operates action shown)

    t : State
    t = after_acts u hs

    operated : Follows (pool_of u q) (runs_there q (runs_of_operating u hs)) (pool_of (with_shown_updated t) q)
    operated =
        more-follow (pool_of u q) (pool_of t q) (pool_of (with_shown_updated t) q) q (runs_of_acts u hs) (runs_of_shown_update t)
        (acts-follow u hs q (operated-plain s.shown action shown)) (shown_update-follows t q)

    cases : (b : Bool) → Follows (pool_of s q) (runs_there q (cond b [] (runs_of_operating u hs))) (pool_of (cond b (no_step s) (step_action s action shown)).after q)
    cases true = follows-same (pool_of s q)
    cases false = subst (λ (pool : Option SetState). Follows pool (runs_there q (runs_of_operating u hs)) (pool_of (with_shown_updated t) q)) (selecting-same s action q) operated

-- The pool of each address after a step is the result of its runs, from the pool accepted last.
step-holds : (s : State) (e : JudgedInput) (q : ℕ) → Holds (accepted_after s e (objects_in s) q) (runs_there q (runs s e)) (pool_of (step s e).after q)
step-holds s (FrameAt time f verdict) q = cases s.lost
  where
    t : State
    t = lapsed (at_time s time)

    n : FrameMeaning
    n = meaning_of s.claims.own s.claims.name f

    there : (r : ℕ) → Holds (objects_in s r) [] (pool_of t r)
    there r = holds-then (objects_in s r) (pool_of s r) (pool_of t r) [] [] (holds-there (pool_of s r)) (lapsed-follows (at_time s time) r)

    cases : (b : Bool) → Holds (cond b (objects_in s) (accepted_in_hearing t (source_of f) n f verdict (objects_in s)) q)
        (runs_there q (cond b [] (runs_of_hearing t (source_of f) n f verdict))) (pool_of (cond b (no_step s) (step_frame s time f verdict)).after q)
    cases true = holds-there (pool_of s q)
    cases false = hearing-holds (objects_in s) s t (source_of f) n f verdict q there
step-holds s (ActionAt action shown) q =
    holds-then (objects_in s q) (pool_of s q) (pool_of (step s (ActionAt action shown)).after q) [] (runs_there q (runs s (ActionAt action shown)))
    (holds-there (pool_of s q)) (operating-follows s action shown q)

-- If there is a pool, the runs lead from the objects accepted last to its objects.
in-law : (last : Option ObjectMap) (rs : List Run) (pool : Option SetState) → Holds last rs pool → IfSome pool (λ new. IsSomeAnd last (λ old. Lead old rs new.objects))
in-law last rs None holds = tt
in-law None rs (Some new) holds = absurd holds
in-law (Some old) rs (Some new) holds = holds

pub of-steps : RunsAreOfSteps
of-steps = record {
  begun = are-begun;
  lead = λ s e address.
      in-law (accepted_after s e (objects_in s) address) (runs_there address (runs s e)) (pool_of (step s e).after address) (step-holds s e address);
}
