-- The headline: the sets of a terminal are those of the written machine, and that machine never sticks (docs/PROOFS.md, "The
-- headline").
use Rattle.std.specs.Prelude.{◌≡◌, ◌≤◌, ℕ, Bool, length, if◌then◌else◌, List, [], ◌∷◌, ◌++◌, Option, Some, None, Result, Ok, Err, IfSome}
use Rattle.std.specs.List.{AllByRecursion}
use Rattle.std.specs.FinMap as finite
use Rattle.vt_can.specs.declared.frames.frame.Frame.{Frame}
use Rattle.vt_can.specs.declared.transport.sessions.Timed.{Timed}
use Rattle.vt_can.specs.frames.Frame.{source_of}
use Rattle.vt_can.specs.transport.Messages.{Message}
use Rattle.vt_names.specs.Registry.{Set}
use Rattle.vt_commands.specs.declared.command.Command.{Command}
use Rattle.vt_commands.specs.declared.event.Event as objects
use Rattle.vt_commands.specs.declared.raising.Raised.{Raised}
use Rattle.vt_commands.specs.Commands.{command_at}
use Rattle.vt_commands.specs.Events.{event_at, raise}
use Rattle.vt_stores.specs.Stores.{ObjectMap, Objects, map_of}
use Rattle.vt_verify.specs.Rules.{IsVerified}
use Rattle.vt_stores.specs.Shapes.{shape_of}
use Rattle.vt_effects.specs.Effects.{effect}
use Rattle.vt_machine.specs.SetStates.{SetState, working_set_in}
use Rattle.vt_macros.specs.Machines.{total_budget, events_of, run_of}
use Rattle.vt_machine.specs.OperatorActions as operating
use Rattle.vt_macros.specs.Runs.{EndInTurn, Ends, IsReady}
use Rattle.vt_shown.specs.ShownElements.{soft_key_mask_of}
use Rattle.vt_layout.specs.Drawings.{IsChained, Sticks, at_path, key_entries, mask_entries, origin, passed}
use Rattle.vt_layout.specs.LookUps.{FindsAll}
use Rattle.vt_node.specs.Bus.{meaning_of}
use Rattle.vt_server.specs.shown.ShownSet.{choosing, shown_now, events_of_change}
use Rattle.vt_server.specs.Judgements.{AreJudgedRight, ends_transfer}
use Rattle.vt_server.specs.frame.TimeoutActs.{at_time, lapsed}
use Rattle.vt_server.specs.operator.ActionEffects.{action_on, is_busy}
use Rattle.vt_server.specs.state.AddressViews.{AddressView, Act, Hears, Preloads, Operates, Raises}
use Rattle.vt_server.specs.state.AddressStates.{empty}
use Rattle.vt_server.specs.frame.SessionEffects.{came}
use Rattle.vt_server.specs.States.{TakesInputs}
use Rattle.vt_server.specs.Steps.{JudgedInput, FrameAt, ActionAt, step, after_all, before, acts, acted, answer_to, is_lost_by, selecting, at_shown, preloading}
use Rattle.vt_server.specs.Terminals.{State, pool_of, part, after_act, after_acts}
use Rattle.vt_node.specs.AddressFunctions.{with_at}
use Rattle.vt_server.specs.message.Verdicts.{Verdict, Accepts}
use Rattle.vt_node.specs.declared.bus.FrameMeaning.{FrameMeaning}
use Rattle.vt_server.specs.declared.input.Input.{Input}
use Rattle.vt_server.specs.declared.output.Output.{Output}

-- ---- pools in force

-- the pool accepted last at each address: a preloaded or uploaded one, or an update with the objects that it kept
abbrev pub Pools : Type 0
Pools = ℕ → Option ObjectMap

-- The objects come from the pool accepted last: they have the same IDs, kinds, macro entries and macro bytes, one working set,
-- and valid references and chains.
pub record IsPoolInForce (last : Option ObjectMap) (state : SetState) : Type 0 where
  pub accepted : Objects
  pub is_last : last ≡ Some (map_of accepted)
  pub verified : IsVerified accepted
  pub ready : IsReady accepted state.objects

abbrev pub ArePoolsInForce : Pools → State → Type 0
ArePoolsInForce pools s = (address : ℕ) → IfSome (pool_of s address) (IsPoolInForce (pools address))

-- ---- pools accepted during an input

abbrev pub accepted_by : Verdict → Option ObjectMap → Option ObjectMap
accepted_by (Accepts objects) last = Some objects
accepted_by _ last = last

abbrev pub accepted_with : Bool → Verdict → Option ObjectMap → Option ObjectMap
accepted_with ends verdict last = if ends then accepted_by verdict last else last

-- the pool accepted by an act: an accepted upload that ends, or a preloaded pool
abbrev pub accepted_at : ℕ → ℕ → AddressView → Act → Option ObjectMap → Option ObjectMap
accepted_at now address p (Hears meaning frame verdict) last =
    accepted_with (ends_transfer p.set (came now p.terminal address p.place meaning frame).message) verdict last
accepted_at now address p (Preloads contents) last = Some contents
accepted_at now address p _ last = last

abbrev pub accepted_by_acts : State → List (ℕ × Act) → Pools → Pools
accepted_by_acts s [] pools = pools
accepted_by_acts s (h ∷ acts) pools =
    accepted_by_acts (after_act s h.0 h.1) acts (with_at h.0 (accepted_at s.now h.0 (part h.0 s) h.1 (pools h.0)) pools)

abbrev pub accepted_in_hearing : State → ℕ → FrameMeaning → Frame → Verdict → Pools → Pools
accepted_in_hearing s source meaning frame verdict pools =
    if is_lost_by (answer_to s source meaning) then pools
    else accepted_by_acts (before s source meaning) (acts s source meaning frame verdict) pools

-- An action of the operator accepts no pool, and a frame after the loss of the address accepts none.
abbrev pub accepted_after : State → JudgedInput → Pools → Pools
accepted_after s (FrameAt time frame verdict) pools =
    if s.lost then pools
    else accepted_in_hearing (lapsed (at_time s time)) (source_of frame) (meaning_of s.claims.own s.claims.name frame) frame verdict pools
accepted_after s (ActionAt action shown) pools = pools

abbrev pub accepted_after_all : State → List JudgedInput → Pools → Pools
accepted_after_all s [] pools = pools
accepted_after_all s (e ∷ events) pools = accepted_after_all (step s e).after events (accepted_after s e pools)

-- ---- runs of the machine during an input

-- A run of the machine: the objects of a set before it, those after the change by a command or an action (the same for an event
-- of the Working Set), and the events raised on these.
pub record Run : Type 0 where
  pub address : ℕ
  pub before : ObjectMap
  pub objects : ObjectMap
  pub raised : List Raised

-- A command that is done raises its events on the objects after its own change.
abbrev pub runs_of_effect : ℕ → ObjectMap → Command → Result ObjectMap ℕ → List Run
runs_of_effect address old command (Ok middle) = record { address = address; before = old; objects = middle; raised = events_of old command } ∷ []
runs_of_effect address old command (Err bits) = []

abbrev pub runs_of_command : ℕ → Option SetState → Option Command → List Run
runs_of_command address (Some state) (Some command) = runs_of_effect address state.objects command (effect state.objects command)
runs_of_command address _ _ = []

-- Only messages from the master of a set begin runs.
abbrev pub runs_of_message : ℕ → Option Set → Option SetState → Option (List ℕ) → List Run
runs_of_message address (Some set) pool (Some bytes) = runs_of_command address pool (command_at bytes)
runs_of_message address _ pool _ = []

-- An action makes its own change first. A refused action makes none; a long message is refused while another is being sent.
abbrev pub runs_of_action : ℕ → Option (Timed Message) → ObjectMap → Option operating.ActionResult → List Run
runs_of_action address sending old (Some (operating.Acts message start raised)) =
    if is_busy message sending then []
    else record { address = address; before = old; objects = start.objects; raised = raised } ∷ []
runs_of_action address sending old _ = []

abbrev pub runs_of_operator : ℕ → Option (Timed Message) → Option SetState → (SetState → Option operating.ActionResult) → List Run
runs_of_operator address sending None action = []
runs_of_operator address sending (Some state) action = runs_of_action address sending state.objects (action state)

-- an event of the Working Set
abbrev pub named : ℕ → Option objects.Event → List Raised
named id None = []
named id (Some event) = raise id event ∷ []

abbrev pub runs_of_event : ℕ → Option SetState → ℕ → List Run
runs_of_event address None event = []
runs_of_event address (Some state) event = record {
  address = address;
  before = state.objects;
  objects = state.objects;
  raised = named (working_set_in state.objects) (event_at event);
} ∷ []

abbrev pub runs_at : ℕ → ℕ → AddressView → Act → List Run
runs_at now address p (Hears meaning frame verdict) = runs_of_message address p.set p.place.content.pool (came now p.terminal address p.place meaning frame).message
runs_at now address p (Operates action shown) = runs_of_operator address p.place.sending p.place.content.pool (λ state. action_on state shown action)
runs_at now address p (Raises event) = runs_of_event address p.place.content.pool event
runs_at now address p _ = []

abbrev pub runs_of_acts : State → List (ℕ × Act) → List Run
runs_of_acts s [] = []
runs_of_acts s (h ∷ acts) = runs_at s.now h.0 (part h.0 s) h.1 ++ runs_of_acts (after_act s h.0 h.1) acts

-- the runs of a change of the shown set
abbrev pub runs_of_shown_update : State → List Run
runs_of_shown_update s = runs_of_acts (choosing s) (events_of_change s.shown (shown_now s))

abbrev pub runs_of_hearing : State → ℕ → FrameMeaning → Frame → Verdict → List Run
runs_of_hearing s source meaning frame verdict =
    if is_lost_by (answer_to s source meaning) then []
    else runs_of_acts (before s source meaning) (acts s source meaning frame verdict) ++ runs_of_shown_update (acted s source meaning frame verdict)

abbrev pub runs_of_operating : State → List (ℕ × Act) → List Run
runs_of_operating s happens = runs_of_acts s happens ++ runs_of_shown_update (after_acts s happens)

-- the runs of an input: of its command or action, and of a change of the shown set
abbrev pub runs : State → JudgedInput → List Run
runs s (FrameAt time frame verdict) =
    if s.lost then [] else runs_of_hearing (lapsed (at_time s time)) (source_of frame) (meaning_of s.claims.own s.claims.name frame) frame verdict
runs s (ActionAt action shown) =
    if s.lost then [] else runs_of_operating (selecting s action) (at_shown s.shown (Operates action shown))

-- ---- the promise on runs

-- A run on the objects of the pool accepted last at its address ends and does not stick. Each command finds its objects, of kinds
-- that it may have. The steps are at most the budgets that the pool's report prints for the events, at most three. The events run
-- in turn, each within its own budget.
pub record EndsInTime (last : Option ObjectMap) (run : Run) : Type 0 where
  pub accepted : Objects
  pub is_last : last ≡ Some (map_of accepted)
  pub verified : IsVerified accepted
  pub ready : IsReady accepted run.objects
  pub ends : Ends run.objects (total_budget (shape_of accepted) run.raised) (run_of run.objects run.raised)
  pub in_turn : EndInTurn run.objects run.raised ends.new
  pub few : length run.raised ≤ 3

-- An input begins at most three runs, so its cost is bounded: one for its command, the budgets of its events, and those of the
-- two events of a change of the shown set. A pool accepted during the input counts for the runs at its address.
pub record RunsOfInputEnd (pools : Pools) (s : State) (e : JudgedInput) : Type 0 where
  pub each : AllByRecursion (λ run. EndsInTime (pools run.address) run) (runs s e)
  pub few : length (runs s e) ≤ 3

abbrev pub AllEnd : Pools → State → List JudgedInput → Type 0
AllEnd pools s [] = Unit {0}
AllEnd pools s (e ∷ events) = RunsOfInputEnd (accepted_after s e pools) s e × AllEnd (accepted_after s e pools) (step s e).after events

-- No drawing of the objects sticks. Each shown reference leads to an object of a kind allowed there, or is NULL where that is
-- allowed. Every object that a drawing looks up is there. The path to each element has few objects.
pub record DrawsWhatIsThere (store : ObjectMap) : Type 0 where
  pub never_sticks : (mask : ℕ) → Sticks store mask → ⊥
  pub finds_all : (mask : ℕ) → FindsAll store mask
  pub in_mask : (mask : ℕ) (path : List ℕ) → IfSome (at_path store (mask_entries store mask) origin path)
      (λ e. IsChained store mask (passed store (mask_entries store mask) path) e.id)
  pub of_keys : (mask : ℕ) (path : List ℕ) → IfSome (at_path store (key_entries store mask) origin path)
      (λ e. IsChained store (soft_key_mask_of (finite.get store mask)) (passed store (key_entries store mask) path) e.id)

-- The runs of events end in time. The pools after them are in force, each from the pool accepted last, and their drawings do not
-- stick.
pub record EventsKeep (pools : Pools) (old : State) (events : List JudgedInput) : Type 0 where
  pub runs_end : AllEnd pools old events
  pub in_force : ArePoolsInForce (accepted_after_all old events pools) (after_all old events)
  pub drawn : (address : ℕ) → IfSome (pool_of (after_all old events) address) (λ state. DrawsWhatIsThere state.objects)

-- After inputs the sets and outputs are those of the written machine, and the machine keeps the promise.
pub record KeepsPromise (pools : Pools) (old : State) (inputs : List Input) (new : State) (sent_before sent_after : List Output) : Type 0 where
  pub takes : TakesInputs old inputs new sent_before sent_after
  pub keeps : EventsKeep pools old takes.events

-- A terminal has no pool at first. An accepted pool that is preloaded is in force beside those in force already. Any events, and
-- any inputs, then keep the promise.
pub record NeverSticks : Type 0 where
  pub first : (s : State) → ((address : ℕ) → s.places address ≡ empty) → ArePoolsInForce (λ address. None) s
  pub preloaded : (pools : Pools) (s : State) (address : ℕ) (pool : Objects) → IsVerified pool → ArePoolsInForce pools s
      → ArePoolsInForce (with_at address (Some (map_of pool)) pools) (preloading s address (map_of pool))
  pub events : (pools : Pools) (old : State) (events : List JudgedInput) → ArePoolsInForce pools old → AreJudgedRight old events → EventsKeep pools old events
  pub inputs : (pools : Pools) (old : State) (inputs : List Input) (new : State) (sent_before sent_after : List Output) → ArePoolsInForce pools old
      → TakesInputs old inputs new sent_before sent_after → KeepsPromise pools old inputs new sent_before sent_after
