-- Definitions of the operator's actions: effect, message and refusal (docs/PROFILE.md, "The operator").
use Rattle.std.specs.Prelude.{ℕ, ◌&&◌, ◌-◌, Bool, nat_lt, if◌then◌else◌, List, [], ◌∷◌, ◌++◌, length, replicate, Option, Some, None, is_some}
use Rattle.vt_can.specs.Assigned.{FILL, VT_TO_ECU}
use Rattle.vt_can.specs.declared.frames.frame.Frame.{Frame}
use Rattle.vt_can.specs.declared.transport.sessions.Timed.{Timed}
use Rattle.vt_can.specs.lines.Actions.{ActionValue, Press, Release, Select, Number, Text, Set}
use Rattle.vt_can.specs.transport.Messages as transport
use Rattle.vt_transport.specs.Wire.{rts_frame}
use Rattle.vt_machine.specs.declared.operator.OperatorRefusal.{OperatorRefusal}
use Rattle.vt_machine.specs.OperatorEntries.{enter_number, enter_text}
use Rattle.vt_machine.specs.SetStates.{SetState, after_run}
use Rattle.vt_machine.specs.SetStates.{active_in}
use Rattle.vt_macros.specs.AudioOfRuns.{audio_of_run}
use Rattle.vt_macros.specs.Machines.{run_of, store_of}
use Rattle.vt_machine.specs.OperatorActions as operating
use Rattle.vt_machine.specs.OperatorActions.{press, release, select}
use Rattle.vt_commands.specs.declared.raising.Raised.{Raised}
use Rattle.vt_node.specs.Messages.{message_to}
use Rattle.vt_server.specs.declared.output.OperatorFault.{OperatorFault}
use Rattle.vt_server.specs.declared.output.OperatorFault.TheVariants as faults

-- the fault of an action that the set refuses
abbrev pub fault_of : OperatorRefusal → OperatorFault
fault_of refusal = faults.Refused refusal

-- ---- actions on the shown set, by whether their object is shown

-- the effect of an action on a set; None for the selection of a set, the terminal's own action
abbrev pub action_on : SetState → Bool → ActionValue → Option operating.ActionResult
action_on state shown (Press id) = Some (press shown state (active_in state.objects) id)
action_on state shown (Release id) = Some (release state id)
action_on state shown (Select id) = Some (select shown state id)
action_on state shown (Number id n) = Some (enter_number shown state id n)
action_on state shown (Text id text) = Some (enter_text shown state id text)
action_on state shown (Set address) = None

-- the object that has to be shown for an action
abbrev pub object_acted_on : ActionValue → Option ℕ
object_acted_on (Press id) = Some id
object_acted_on (Release id) = None
object_acted_on (Select id) = Some id
object_acted_on (Number id n) = Some id
object_acted_on (Text id text) = Some id
object_acted_on (Set address) = None

-- ---- the message of an action

-- a message filled to eight bytes
abbrev pub filled : List ℕ → List ℕ
filled bytes = bytes ++ replicate (8 - length bytes) FILL

-- whether a message is too long for one frame
abbrev pub is_long : List ℕ → Bool
is_long bytes = nat_lt 8 (length bytes)

-- whether a message is long while another is being sent already
abbrev pub is_busy : List ℕ → Option (Timed transport.Message) → Bool
is_busy bytes sending = is_long bytes && is_some sending

abbrev pub message_frames : ℕ → ℕ → List ℕ → List Frame
message_frames own address [] = []
message_frames own address (byte ∷ bytes) =
    if is_long (byte ∷ bytes) then rts_frame own address (length (byte ∷ bytes)) VT_TO_ECU ∷ []
    else message_to own address (filled (byte ∷ bytes)) ∷ []

-- the sending session after a message: a new one if it is long
abbrev pub sending_after : ℕ → List ℕ → Option (Timed transport.Message) → Option (Timed transport.Message)
sending_after now bytes sending =
    if is_long bytes then Some (record { last = now; session = record { pgn = VT_TO_ECU; bytes = bytes } }) else sending

-- ---- the change by an action: its own change, then the macros of its events

abbrev pub ran : SetState → List Raised → SetState
ran start raised = after_run start (store_of (run_of start.objects raised)) (audio_of_run start.audio start.objects raised)
