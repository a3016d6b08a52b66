-- An input begins at most three runs.
use Rattle.std.proofs.Common.{◌≡◌, ◌≤◌, ◌+◌, ℕ, Bool, true, false, cond, nat_eq, eqb, List, [], ◌∷◌, ◌++◌, length, Option, Some, None, Result, Ok, Err, refl, sym, subst, arith}
use Rattle.std.specs.Option.{option_eq}
use Rattle.vt_can.specs.declared.frames.frame.Frame.{Frame}
use Rattle.vt_can.specs.frames.Frame.{source_of}
use Rattle.vt_can.specs.declared.transport.sessions.Timed.{Timed}
use Rattle.vt_can.specs.transport.Messages.{Message}
use Rattle.vt_names.specs.Registry.{Set}
use Rattle.vt_commands.specs.declared.command.Command.{Command}
use Rattle.vt_commands.specs.Commands.{command_at}
use Rattle.vt_stores.specs.Stores.{ObjectMap}
use Rattle.vt_effects.specs.Effects.{effect}
use Rattle.vt_machine.specs.SetStates.{SetState}
use Rattle.vt_machine.specs.OperatorActions as operating
use Rattle.vt_node.specs.Bus.{meaning_of}
use Rattle.vt_server.specs.shown.ShownSet.{choosing, shown_now, events_of_change, raised_at, ACTIVATE, DEACTIVATE}
use Rattle.vt_laws.specs.Headline.{Run, runs_of_effect, runs_of_command, runs_of_message, runs_of_action, runs_of_operator, runs_of_event, runs_at, runs_of_acts, runs_of_shown_update, runs_of_hearing, runs_of_operating, runs}
use Rattle.vt_server.specs.frame.TimeoutActs.{at_time, lapsed}
use Rattle.vt_server.specs.operator.ActionEffects.{action_on, is_busy}
use Rattle.vt_server.specs.state.AddressViews.{AddressView, Act, Hears, Rebinds, Preloads, TpExpires, EtpExpires, SendingExpires, FallsSilent, Operates, Raises}
use Rattle.vt_server.specs.frame.SessionEffects.{came}
use Rattle.vt_server.specs.Steps.{JudgedInput, FrameAt, ActionAt, before, acts, acted, answer_to, is_lost_by, changes, heard_at_source, selecting, at_shown}
use Rattle.vt_server.specs.Terminals.{State, part, after_act, after_acts}
use Rattle.vt_server.specs.message.Verdicts.{Verdict}
use Rattle.vt_node.specs.declared.bus.FrameMeaning.{FrameMeaning}
use Rattle.vt_server.proofs.lemmas.acts.AddressedActs.{AllAt, at-changes}

length-append : {A : Type 0} (xs ys : List A) → length (xs ++ ys) ≡ length xs + length ys
length-append [] ys = omega arith
length-append (x ∷ xs) ys = let rest = length-append xs ys in omega (arith, rest)

few-append : {A : Type 0} (xs ys : List A) (m n : ℕ) → length xs ≤ m → length ys ≤ n → length (xs ++ ys) ≤ m + n
few-append xs ys m n first second = let all = length-append xs ys in omega (arith, all, first, second)

-- ---- each act begins at most one run

effect-runs : (a : ℕ) (old : ObjectMap) (command : Command) (r : Result ObjectMap ℕ) → length (runs_of_effect a old command r) ≤ 1
effect-runs a old command (Ok middle) = omega arith
effect-runs a old command (Err bits) = omega arith

command-runs : (a : ℕ) (o : Option SetState) (c : Option Command) → length (runs_of_command a o c) ≤ 1
command-runs a None c = omega arith
command-runs a (Some state) None = omega arith
command-runs a (Some state) (Some command) = effect-runs a state.objects command (effect state.objects command)

message-runs : (a : ℕ) (set : Option Set) (o : Option SetState) (message : Option (List ℕ)) → length (runs_of_message a set o message) ≤ 1
message-runs a None o message = omega arith
message-runs a (Some set) o None = omega arith
message-runs a (Some set) o (Some bytes) = command-runs a o (command_at bytes)

action-runs : (a : ℕ) (sending : Option (Timed Message)) (old : ObjectMap) (o : Option operating.ActionResult) → length (runs_of_action a sending old o) ≤ 1
action-runs a sending old None = omega arith
action-runs a sending old (Some (operating.Refused refusal)) = omega arith
action-runs a sending old (Some (operating.Acts message start raised)) = cases (is_busy message sending)
  where
    cases : (b : Bool) → length {A = Run} (cond b [] (record { address = a; before = old; objects = start.objects; raised = raised } ∷ [])) ≤ 1
    cases true = omega arith
    cases false = omega arith

operator-runs : (a : ℕ) (sending : Option (Timed Message)) (o : Option SetState) (action : SetState → Option operating.ActionResult)
    → length (runs_of_operator a sending o action) ≤ 1
operator-runs a sending None action = omega arith
operator-runs a sending (Some state) action = action-runs a sending state.objects (action state)

event-runs : (a : ℕ) (o : Option SetState) (event : ℕ) → length (runs_of_event a o event) ≤ 1
event-runs a None event = omega arith
event-runs a (Some state) event = omega arith

act-few : (now a : ℕ) (p : AddressView) (h : Act) → length (runs_at now a p h) ≤ 1
act-few now a p (Hears n f verdict) = message-runs a p.set p.place.content.pool (came now p.terminal a p.place n f).message
act-few now a p Rebinds = omega arith
act-few now a p (Preloads contents) = omega arith
act-few now a p TpExpires = omega arith
act-few now a p EtpExpires = omega arith
act-few now a p SendingExpires = omega arith
act-few now a p FallsSilent = omega arith
act-few now a p (Operates action shown) = operator-runs a p.place.sending p.place.content.pool (λ state. action_on state shown action)
act-few now a p (Raises event) = event-runs a p.place.content.pool event

acts-few : (s : State) (hs : List (ℕ × Act)) → length (runs_of_acts s hs) ≤ length hs
acts-few s [] = omega arith
acts-few s (h ∷ hs) =
    let first = act-few s.now h.0 (part h.0 s) h.1 in
    let rest = acts-few (after_act s h.0 h.1) hs in
    let all = few-append (runs_at s.now h.0 (part h.0 s) h.1) (runs_of_acts (after_act s h.0 h.1) hs) 1 (length hs) first rest in
    omega (arith, all)

-- ---- a change of the holder begins no run

abbrev IsRebound : ℕ → Act → Type 0
IsRebound a Rebinds = Unit {0}
IsRebound a _ = ⊥

rebound-runs : (now a : ℕ) (p : AddressView) (h : Act) → IsRebound a h → runs_at now a p h ≡ []
rebound-runs now a p Rebinds is = refl
rebound-runs now a p (Hears n f verdict) is = absurd is
rebound-runs now a p (Preloads contents) is = absurd is
rebound-runs now a p TpExpires is = absurd is
rebound-runs now a p EtpExpires is = absurd is
rebound-runs now a p SendingExpires is = absurd is
rebound-runs now a p FallsSilent is = absurd is
rebound-runs now a p (Operates action shown) is = absurd is
rebound-runs now a p (Raises event) is = absurd is

behind-rebound : (s : State) (hs ks : List (ℕ × Act)) → AllAt IsRebound hs → length (runs_of_acts s (hs ++ ks)) ≤ length ks
behind-rebound s [] ks all = acts-few s ks
behind-rebound s (h ∷ hs) ks all =
    subst (λ (l : List Run). length (l ++ runs_of_acts (after_act s h.0 h.1) (hs ++ ks)) ≤ length ks) (sym (rebound-runs s.now h.0 (part h.0 s) h.1 all.0))
    (behind-rebound (after_act s h.0 h.1) hs ks all.1)

-- ---- an input

raised-few : (o : Option ℕ) (event : ℕ) → length (raised_at o event) ≤ 1
raised-few None event = omega arith
raised-few (Some a) event = omega arith

change-few : (was now : Option ℕ) → length (events_of_change was now) ≤ 2
change-few was now = cases (option_eq nat_eq was now)
  where
    cases : (b : Bool) → length (cond b [] (raised_at was DEACTIVATE ++ raised_at now ACTIVATE)) ≤ 2
    cases true = omega arith
    cases false = few-append (raised_at was DEACTIVATE) (raised_at now ACTIVATE) 1 1 (raised-few was DEACTIVATE) (raised-few now ACTIVATE)

shown_update-few : (s : State) → length (runs_of_shown_update s) ≤ 2
shown_update-few s =
    let events = events_of_change s.shown (shown_now s) in
    let most = change-few s.shown (shown_now s) in
    let few = acts-few (choosing s) events in omega (arith, most, few)

heard-few : (own source : ℕ) (n : FrameMeaning) (f : Frame) (verdict : Verdict) → length (heard_at_source own source n f verdict) ≤ 1
heard-few own source n f verdict = cases (eqb source own)
  where
    cases : (b : Bool) → length {A = ℕ × Act} (cond b [] ((source, Hears n f verdict) ∷ [])) ≤ 1
    cases true = omega arith
    cases false = omega arith

hearing-few : (s : State) (source : ℕ) (n : FrameMeaning) (f : Frame) (verdict : Verdict) → length (runs_of_hearing s source n f verdict) ≤ 3
hearing-few s source n f verdict = cases (is_lost_by (answer_to s source n))
  where
    first : List Run
    first = runs_of_acts (before s source n) (acts s source n f verdict)

    last : List Run
    last = runs_of_shown_update (acted s source n f verdict)

    one : length first ≤ 1
    one =
        let heard = heard_at_source s.claims.own source n f verdict in
        let few = behind-rebound (before s source n) (changes s source n) heard (at-changes IsRebound (λ a. tt) s source n) in
        let most = heard-few s.claims.own source n f verdict in omega (arith, few, most)

    cases : (b : Bool) → length (cond b [] (first ++ last)) ≤ 3
    cases true = omega arith
    cases false = few-append first last 1 2 one (shown_update-few (acted s source n f verdict))

shown-few : (o : Option ℕ) (act : Act) → length (at_shown o act) ≤ 1
shown-few None act = omega arith
shown-few (Some a) act = omega arith

operating-few : (s : State) (hs : List (ℕ × Act)) → length hs ≤ 1 → length (runs_of_operating s hs) ≤ 3
operating-few s hs one =
    let few = acts-few s hs in
    few-append (runs_of_acts s hs) (runs_of_shown_update (after_acts s hs)) 1 2 (omega (arith, few, one)) (shown_update-few (after_acts s hs))

pub few-runs : (s : State) (e : JudgedInput) → length (runs s e) ≤ 3
few-runs s (FrameAt time f verdict) = cases s.lost
  where
    all : List Run
    all = runs_of_hearing (lapsed (at_time s time)) (source_of f) (meaning_of s.claims.own s.claims.name f) f verdict

    cases : (b : Bool) → length (cond b [] all) ≤ 3
    cases true = omega arith
    cases false = hearing-few (lapsed (at_time s time)) (source_of f) (meaning_of s.claims.own s.claims.name f) f verdict
few-runs s (ActionAt action shown) = cases s.lost
  where
    happens : List (ℕ × Act)
    happens = at_shown s.shown (Operates action shown)

    cases : (b : Bool) → length (cond b [] (runs_of_operating (selecting s action) happens)) ≤ 3
    cases true = omega arith
    cases false = operating-few (selecting s action) happens (shown-few s.shown (Operates action shown))
