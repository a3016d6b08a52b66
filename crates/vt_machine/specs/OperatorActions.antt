-- The operator's actions on a working set. The first test that fails refuses an action; otherwise the message, the change
-- and the raised events are all chosen before the first macro runs (docs/PROFILE.md, "The operator").
use Rattle.std.specs.Prelude.{◌≡◌, ◌%◌, ℕ, Bool, true, false, not, ◌==◌, if◌then◌else◌, List, [], ◌∷◌, ◌++◌, Decides, Option, Some, None, Result, Ok, Err}
use Rattle.std.specs.FinMap as finite
use Rattle.byteorder.specs.Endian.{little_bytes}
use Rattle.vt_kinds.specs.declared.object.Object.TheVariants as objects
use Rattle.vt_commands.specs.declared.event.Event.TheVariants as events
use Rattle.vt_commands.specs.declared.raising.Raised.{Raised}
use Rattle.vt_commands.specs.Events.{raise}
use Rattle.vt_commands.specs.Commands.{SOFT_KEY_ACTIVATION, BUTTON_ACTIVATION}
use Rattle.vt_kinds.specs.Records.{Seen}
use Rattle.vt_machine.specs.declared.live.HeldKey.{HeldKey}
use Rattle.vt_machine.specs.declared.operator.Acted.{Acted}
use Rattle.vt_machine.specs.declared.operator.OperatorRefusal.{OperatorRefusal}
use Rattle.vt_machine.specs.declared.operator.OperatorRefusal.TheVariants as refusals
use Rattle.vt_machine.specs.SetStates.{SetState, HasRun, active_in}
use Rattle.vt_macros.specs.AudioOfRuns.{audio_of_run}
use Rattle.vt_macros.specs.Machines.{joined_all, total_budget}
use Rattle.vt_effects.specs.Soundness.{shape_in}
use Rattle.vt_shown.specs.ShownElements.{IsShown}

-- the result of an action
pub data ActionResult : Type 0 where
  Refused : (refusal : OperatorRefusal) → ActionResult
  Acts : (message : List ℕ) (state : SetState) (raised : List Raised) → ActionResult

-- ---- keys

-- the message of a Key or a Button, with code 1 for pressed and 0 for released; other objects have no message
abbrev pub key_bytes : ℕ → ℕ → ℕ → ℕ → ℕ → List ℕ
key_bytes function code id mask key_code = function ∷ code ∷ little_bytes 2 id ++ little_bytes 2 mask ++ key_code ∷ 0xFF ∷ []

abbrev pub key_message : ℕ → ℕ → ℕ → Option Seen → Option (List ℕ)
key_message code id mask (Some (objects.Key o)) = Some (key_bytes SOFT_KEY_ACTIVATION code id mask o.key_code)
key_message code id mask (Some (objects.Button o)) = Some (key_bytes BUTTON_ACTIVATION code id mask o.key_code)
key_message code id mask _ = None

abbrev pub holding : SetState → Option HeldKey → SetState
holding state key = record state { key = key }

abbrev pub held : ℕ → ℕ → HeldKey
held id mask = record { id = id; mask = mask }

abbrev pub press_with : SetState → ℕ → ℕ → Option (List ℕ) → Option HeldKey → ActionResult
press_with state mask id None key = Refused refusals.WrongKind
press_with state mask id (Some message) (Some key) = Refused refusals.Held
press_with state mask id (Some message) None = Acts message (holding state (Some (held id mask))) (raise id events.KeyPress ∷ [])

-- the press of a key, where `shown` is whether the object is shown
abbrev pub press : Bool → SetState → ℕ → ℕ → ActionResult
press false state mask id = Refused refusals.NotShown
press true state mask id = press_with state mask id (key_message 1 id mask (finite.get state.objects id)) state.key

abbrev pub or_none : Option (List ℕ) → List ℕ
or_none None = []
or_none (Some message) = message

-- the release of the held key: the message has the mask of the press and the present key code
abbrev pub release_of : SetState → ℕ → Option HeldKey → ActionResult
release_of state id None = Refused refusals.NotPressed
release_of state id (Some key) =
    if key.id == id
    then Acts (or_none (key_message 0 id key.mask (finite.get state.objects id))) (holding state None) (raise id events.KeyRelease ∷ [])
    else Refused refusals.NotPressed

abbrev pub release : SetState → ℕ → ActionResult
release state id = release_of state id state.key

-- ---- inputs

-- whether an input is enabled; None for other objects
abbrev pub is_enabled : Option Seen → Option Bool
is_enabled (Some (objects.InputBoolean o)) = Some (not (o.enabled == 0))
is_enabled (Some (objects.InputString o)) = Some (not (o.enabled == 0))
is_enabled (Some (objects.InputNumber o)) = Some (o.options_two % 2 == 1)
is_enabled (Some (objects.InputList o)) = Some (o.options % 2 == 1)
is_enabled _ = None

abbrev pub selecting_input : SetState → ℕ → SetState
selecting_input state id = record state { input = Some id }

-- the former input is deselected first; no events if the same input is selected again
abbrev pub select_events : ℕ → Option ℕ → List Raised
select_events id None = raise id events.InputSelected ∷ []
select_events id (Some old) =
    if old == id then [] else raise old events.InputDeselected ∷ raise id events.InputSelected ∷ []

abbrev pub select_if : SetState → ℕ → Option Bool → ActionResult
select_if state id None = Refused refusals.WrongKind
select_if state id (Some false) = Refused refusals.Disabled
select_if state id (Some true) = Acts [] (selecting_input state id) (select_events id state.input)

abbrev pub select : Bool → SetState → ℕ → ActionResult
select false state id = Refused refusals.NotShown
select true state id = select_if state id (is_enabled (finite.get state.objects id))

-- ---- the result of a call and the state after it

-- A refused action changes nothing. Any other sends its message and makes its change, and then its events' macros run.
pub record HasActed (start : SetState) (raised : List Raised) (steps : ℕ) (new : SetState) : Type 0 where
  pub has_run : HasRun start.objects (joined_all (shape_in start.objects) raised) (total_budget (shape_in start.objects) raised) steps new.objects
  pub key : new.key ≡ start.key
  pub input : new.input ≡ start.input
  pub audio : new.audio ≡ audio_of_run start.audio start.objects raised

abbrev pub ComesTo : SetState → ActionResult → Result Acted OperatorRefusal → SetState → Type 0
ComesTo old (Refused refusal) (Err answered) new = (answered ≡ refusal) × (new ≡ old)
ComesTo old (Acts message start raised) (Ok acted) new = (acted.message.items ≡ message) × HasActed start raised acted.steps new
ComesTo old (Refused refusal) (Ok acted) new = ⊥
ComesTo old (Acts message start raised) (Err answered) new = ⊥

-- an action on an object that the active mask has to show
abbrev pub ComesToShown : SetState → ℕ → (Bool → ℕ → ActionResult) → Result Acted OperatorRefusal → SetState → Type 0
ComesToShown old id action result new =
    (shown : Bool) × Decides shown (IsShown old.objects (active_in old.objects) id) × ComesTo old (action shown (active_in old.objects)) result new

-- the refusal of an action, or None
abbrev pub refusal_of : ActionResult → Option OperatorRefusal
refusal_of (Refused refusal) = Some refusal
refusal_of (Acts message state raised) = None

abbrev pub WouldRefuse : SetState → ℕ → (Bool → ℕ → ActionResult) → Option OperatorRefusal → Type 0
WouldRefuse old id action result =
    (shown : Bool) × Decides shown (IsShown old.objects (active_in old.objects) id) × (result ≡ refusal_of (action shown (active_in old.objects)))
