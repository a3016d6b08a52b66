-- Each listed run of an input begins with a command that is done, an action of the operator, or an event.
use Rattle.std.proofs.Common.{◌≡◌, ℕ, Bool, true, false, cond, List, [], ◌∷◌, ◌++◌, Option, Some, None, Result, Ok, Err, refl, sym, subst, inl, inr, ◌⊎◌}
use Rattle.std.specs.List.{AllByRecursion}
use Rattle.vt_can.specs.declared.frames.frame.Frame.{Frame}
use Rattle.vt_can.specs.declared.transport.sessions.Timed.{Timed}
use Rattle.vt_can.specs.frames.Frame.{source_of}
use Rattle.vt_can.specs.lines.Actions.{ActionValue}
use Rattle.vt_can.specs.transport.Messages as transport
use Rattle.vt_names.specs.Registry.{Set}
use Rattle.vt_commands.specs.declared.command.Command.{Command}
use Rattle.vt_commands.specs.declared.event.Event.TheVariants as events
use Rattle.vt_commands.specs.Commands.{command_at}
use Rattle.vt_stores.specs.Stores.{ObjectMap}
use Rattle.vt_effects.specs.Effects.{effect}
use Rattle.vt_macros.proofs.MacroTargetsExist.{all_append}
use Rattle.vt_machine.specs.SetStates.{SetState}
use Rattle.vt_machine.specs.OperatorActions as operating
use Rattle.vt_node.specs.Bus.{meaning_of}
use Rattle.vt_node.specs.declared.bus.FrameMeaning.{FrameMeaning}
use Rattle.vt_server.specs.shown.ShownSet.{choosing, shown_now, events_of_change}
use Rattle.vt_server.specs.frame.TimeoutActs.{at_time, lapsed}
use Rattle.vt_server.specs.operator.ActionEffects.{action_on, is_busy}
use Rattle.vt_server.specs.state.AddressViews.{AddressView, Act, Hears, Rebinds, Preloads, TpExpires, EtpExpires, SendingExpires, FallsSilent, Operates, Raises}
use Rattle.vt_server.specs.frame.SessionEffects.{came}
use Rattle.vt_server.specs.Steps.{JudgedInput, FrameAt, ActionAt, before, acts, acted, answer_to, is_lost_by, changes, heard_at_source, selecting, at_shown}
use Rattle.vt_server.specs.Terminals.{State, part, after_act, after_acts}
use Rattle.vt_server.specs.message.Verdicts.{Verdict}
use Rattle.vt_server.proofs.lemmas.acts.AddressedActs.{AllAt, at-append, at-changes, at-heard}
use Rattle.vt_laws.specs.Headline.{Run, runs_of_effect, runs_of_command, runs_of_message, runs_of_action, runs_of_operator, runs_of_event, runs_at, runs_of_acts, runs_of_shown_update, runs_of_hearing, runs_of_operating, runs}
use Rattle.vt_laws.specs.RunsOfSteps.{IsBegun}
use Rattle.vt_laws.specs.RunsOfSteps.IsBegun.{ByCommand, ByAction, ByEvent}
use Rattle.vt_laws.proofs.lemmas.pools.PoolsInForce.{IsPlain, change-plain, operated-plain}

-- runs that each begin with a command that is done, an action of the operator, or an event
abbrev AreBegun : List Run → Type 0
AreBegun rs = AllByRecursion IsBegun rs

-- ---- runs that begin by a command

effect-begun : (a : ℕ) (old : ObjectMap) (command : Command) (r : Result ObjectMap ℕ) → effect old command ≡ r → AreBegun (runs_of_effect a old command r)
effect-begun a old command (Ok middle) is = (ByCommand command is refl, tt)
effect-begun a old command (Err bits) is = tt

command-begun : (a : ℕ) (pool : Option SetState) (c : Option Command) → AreBegun (runs_of_command a pool c)
command-begun a None c = tt
command-begun a (Some state) None = tt
command-begun a (Some state) (Some command) = effect-begun a state.objects command (effect state.objects command) refl

message-begun : (a : ℕ) (o : Option Set) (pool : Option SetState) (message : Option (List ℕ)) → AreBegun (runs_of_message a o pool message)
message-begun a None pool message = tt
message-begun a (Some set) pool None = tt
message-begun a (Some set) pool (Some bytes) = command-begun a pool (command_at bytes)

-- ---- runs that begin by an action

action-begun : (a : ℕ) (sending : Option (Timed transport.Message)) (state : SetState) (shown : Bool) (action : ActionValue) (o : Option operating.ActionResult)
    → action_on state shown action ≡ o → AreBegun (runs_of_action a sending state.objects o)
action-begun a sending state shown action None is = tt
action-begun a sending state shown action (Some (operating.Refused refusal)) is = tt
action-begun a sending state shown action (Some (operating.Acts message start raised)) is = cases (is_busy message sending)
  where
    cases : (b : Bool) → AreBegun (cond b [] (record { address = a; before = state.objects; objects = start.objects; raised = raised } ∷ []))
    cases true = tt
    cases false = (ByAction state start shown action message refl is refl, tt)

operator-begun : (a : ℕ) (sending : Option (Timed transport.Message)) (o : Option SetState) (shown : Bool) (action : ActionValue)
    → AreBegun (runs_of_operator a sending o (λ state. action_on state shown action))
operator-begun a sending None shown action = tt
operator-begun a sending (Some state) shown action = action-begun a sending state shown action (action_on state shown action) refl

-- ---- runs that begin by an event

event-begun : (a event : ℕ) → (event ≡ 2) ⊎ (event ≡ 1) → (o : Option SetState) → AreBegun (runs_of_event a o event)
event-begun a event which None = tt
event-begun a event (inl two) (Some state) =
    subst (λ (n : ℕ). AreBegun (runs_of_event a (Some state) n)) (sym two) (ByEvent events.Deactivate refl refl, tt)
event-begun a event (inr one) (Some state) =
    subst (λ (n : ℕ). AreBegun (runs_of_event a (Some state) n)) (sym one) (ByEvent events.Activate refl refl, tt)

-- ---- runs that begin by an act

-- The only events raised are Activate and Deactivate.
abbrev IsWell : ℕ → Act → Type 0
IsWell a (Raises event) = (event ≡ 2) ⊎ (event ≡ 1)
IsWell a h = Unit {0}

act-begun : (now a : ℕ) (p : AddressView) (h : Act) → IsWell a h → AreBegun (runs_at now a p h)
act-begun now a p (Hears n f verdict) well = message-begun a p.set p.place.content.pool (came now p.terminal a p.place n f).message
act-begun now a p Rebinds well = tt
act-begun now a p (Preloads contents) well = tt
act-begun now a p TpExpires well = tt
act-begun now a p EtpExpires well = tt
act-begun now a p SendingExpires well = tt
act-begun now a p FallsSilent well = tt
act-begun now a p (Operates action shown) well = operator-begun a p.place.sending p.place.content.pool shown action
act-begun now a p (Raises event) well = event-begun a event well p.place.content.pool

acts-begun : (s : State) (hs : List (ℕ × Act)) → AllAt IsWell hs → AreBegun (runs_of_acts s hs)
acts-begun s [] well = tt
acts-begun s (h ∷ hs) well =
    all_append IsBegun (runs_at s.now h.0 (part h.0 s) h.1) (runs_of_acts (after_act s h.0 h.1) hs) (act-begun s.now h.0 (part h.0 s) h.1 well.0)
    (acts-begun (after_act s h.0 h.1) hs well.1)

-- An act that may happen in every state raises no event but Activate and Deactivate.
plain-well : (a : ℕ) (h : Act) → IsPlain a h → IsWell a h
plain-well a (Hears n f verdict) plain = tt
plain-well a Rebinds plain = tt
plain-well a (Preloads contents) plain = tt
plain-well a TpExpires plain = tt
plain-well a EtpExpires plain = tt
plain-well a SendingExpires plain = tt
plain-well a FallsSilent plain = tt
plain-well a (Operates action shown) plain = tt
plain-well a (Raises event) plain = plain

all-well : (hs : List (ℕ × Act)) → AllAt IsPlain hs → AllAt IsWell hs
all-well [] plain = tt
all-well (h ∷ hs) plain = (plain-well h.0 h.1 plain.0, all-well hs plain.1)

-- ---- the runs of an input

shown_update-begun : (s : State) → AreBegun (runs_of_shown_update s)
shown_update-begun s = acts-begun (choosing s) (events_of_change s.shown (shown_now s)) (all-well (events_of_change s.shown (shown_now s)) (change-plain s.shown (shown_now s)))

frame-begun : (s : State) (source : ℕ) (n : FrameMeaning) (f : Frame) (verdict : Verdict) → AreBegun (runs_of_acts (before s source n) (acts s source n f verdict))
frame-begun s source n f verdict =
    acts-begun (before s source n) (acts s source n f verdict)
    (at-append IsWell (changes s source n) (heard_at_source s.claims.own source n f verdict) (at-changes IsWell (λ a. tt) s source n)
    (at-heard IsWell s.claims.own source n f verdict tt))

hearing-begun : (s : State) (source : ℕ) (n : FrameMeaning) (f : Frame) (verdict : Verdict) → AreBegun (runs_of_hearing s source n f verdict)
hearing-begun s source n f verdict = cases (is_lost_by (answer_to s source n))
  where
    first : List Run
    first = runs_of_acts (before s source n) (acts s source n f verdict)

    later : List Run
    later = runs_of_shown_update (acted s source n f verdict)

    cases : (b : Bool) → AreBegun (cond b [] (first ++ later))
    cases true = tt
    cases false = all_append IsBegun first later (frame-begun s source n f verdict) (shown_update-begun (acted s source n f verdict))

pub are-begun : (s : State) (e : JudgedInput) → AreBegun (runs s e)
are-begun s (FrameAt time f verdict) = cases s.lost
  where
    t : State
    t = lapsed (at_time s time)

    n : FrameMeaning
    n = meaning_of s.claims.own s.claims.name f

    cases : (b : Bool) → AreBegun (cond b [] (runs_of_hearing t (source_of f) n f verdict))
    cases true = tt
    cases false = hearing-begun t (source_of f) n f verdict
are-begun s (ActionAt action shown) = cases s.lost
  where
    u : State
    u = selecting s action

    hs : List (ℕ × Act)
    hs = at_shown s.shown (Operates action shown)

    cases : (b : Bool) → AreBegun (cond b [] (runs_of_operating u hs))
    cases true = tt
    cases false =
        all_append IsBegun (runs_of_acts u hs) (runs_of_shown_update (after_acts u hs)) (acts-begun u hs (all-well hs (operated-plain s.shown action shown)))
        (shown_update-begun (after_acts u hs))
