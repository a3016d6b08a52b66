-- The terminal as one step for each input (docs/PROFILE.md, "The step").
use Rattle.std.specs.Prelude.{ℕ, ◌==◌, Bool, true, false, not, if◌then◌else◌, List, [], ◌∷◌, ◌++◌, Option, Some, None, nat_eq, is_some}
use Rattle.std.specs.Option.{option_eq}
use Rattle.vt_can.specs.declared.frames.frame.Frame.{Frame}
use Rattle.vt_can.specs.Assigned.{NULL_ADDRESS}
use Rattle.vt_can.specs.frames.Frame.{source_of}
use Rattle.vt_can.specs.lines.Actions.{ActionValue, Set}
use Rattle.vt_names.specs.Claims.{Claimed, heard, address_of, answer}
use Rattle.vt_names.specs.declared.claims.ClaimMeaning.{ClaimMeaning}
use Rattle.vt_names.specs.declared.claims.ClaimMeaning.TheVariants as claims
use Rattle.vt_node.specs.Bus.{meaning_of}
use Rattle.vt_server.specs.shown.ShownSet.{choosing, shown_now, events_of_change, display, status}
use Rattle.vt_server.specs.frame.TimeoutActs.{at_time, lapsed, sent_by_lapses}
use Rattle.vt_node.specs.Messages.{claim_from}
use Rattle.vt_stores.specs.Stores.{ObjectMap}
use Rattle.vt_server.specs.state.AddressViews.{Act, Hears, Rebinds, Operates, Preloads}
use Rattle.vt_server.specs.Terminals.{State, Sent, ToAll, Refused, holder, pool_of, pool_at, after_act, after_acts, sent_by_acts}
use Rattle.vt_server.specs.message.Verdicts.{Verdict}
use Rattle.vt_node.specs.declared.bus.FrameMeaning.{FrameMeaning}
use Rattle.vt_node.specs.declared.bus.FrameMeaning.TheVariants.{Claim, ClaimRequest}
use Rattle.vt_server.specs.declared.output.OperatorFault.TheVariants.{NoSet}

-- An input with its judgements of pools: the verdict on the upload that a frame ends, and whether the object of an action is
-- shown. Judgements defines which of them are right.
pub data JudgedInput : Type 0 where
  FrameAt : (time : ℕ) (frame : Frame) (verdict : Verdict) → JudgedInput
  ActionAt : (action : ActionValue) (shown : Bool) → JudgedInput

pub record Step : Type 0 where
  pub after : State
  pub sent : List Sent

abbrev pub no_step : State → Step
no_step s = record { after = s; sent = [] }

-- ---- the acts of a frame

abbrev pub receive_claim : State → ℕ → FrameMeaning → Claimed
receive_claim s source (Claim name) = heard s.claims source name
receive_claim s source _ = s.claims

-- the state with the claim recorded, before any act at an address
abbrev pub before : State → ℕ → FrameMeaning → State
before s source meaning = record s { claims = receive_claim s source meaning }

-- the act of an address whose holder has changed
abbrev pub rebind_acts : Option ℕ → State → ℕ → List (ℕ × Act)
rebind_acts was s address = if option_eq nat_eq was (holder s address) then [] else (address, Rebinds) ∷ []

-- the former address of a NAME that claims another
abbrev pub former_address : ℕ → Option ℕ → Option ℕ
former_address source None = None
former_address source (Some former) = if former == source then None else Some former

abbrev pub former_holder : State → Option ℕ → Option ℕ
former_holder s None = None
former_holder s (Some former) = holder s former

abbrev pub rebind_former_acts : Option ℕ → State → Option ℕ → List (ℕ × Act)
rebind_former_acts was s None = []
rebind_former_acts was s (Some former) = rebind_acts was s former

-- A claim changes the holders of at most two addresses: the former address of its NAME, and its source.
abbrev pub changes_by : State → State → Option ℕ → ℕ → List (ℕ × Act)
changes_by s t former source = rebind_former_acts (former_holder s former) t former ++ rebind_acts (holder s source) t source

abbrev pub changes : State → ℕ → FrameMeaning → List (ℕ × Act)
changes s source (Claim name) =
    changes_by s (before s source (Claim name)) (former_address source (address_of s.claims.addresses name)) source
changes s source _ = []

-- The terminal ignores frames from its own address.
abbrev pub heard_at_source : ℕ → ℕ → FrameMeaning → Frame → Verdict → List (ℕ × Act)
heard_at_source own source meaning frame verdict = if source == own then [] else (source, Hears meaning frame verdict) ∷ []

-- the acts of a frame in order: the changes of holders, then the frame at its source
abbrev pub acts : State → ℕ → FrameMeaning → Frame → Verdict → List (ℕ × Act)
acts s source meaning frame verdict = changes s source meaning ++ heard_at_source s.claims.own source meaning frame verdict

abbrev pub answer_to : State → ℕ → FrameMeaning → ClaimMeaning
answer_to s source (Claim name) = answer s.claims source name
answer_to s source _ = claims.Nothing

-- whether a lower NAME claims the own address
abbrev pub is_lost_by : ClaimMeaning → Bool
is_lost_by claims.Lost = true
is_lost_by _ = false

-- whether the terminal sends its claim: another NAME claims its address, or its claim is requested
abbrev pub is_defended : FrameMeaning → ClaimMeaning → Bool
is_defended ClaimRequest _ = true
is_defended _ claims.Defend = true
is_defended _ _ = false

abbrev pub defence : State → ℕ → FrameMeaning → List Sent
defence s source meaning =
    if is_defended meaning (answer_to s source meaning) then ToAll (claim_from s.claims.own s.claims.name) ∷ [] else []

-- ---- the end of a step

-- The shown set is chosen, the events of its change are raised, and the status is sent if the display differs from the one before
-- the input.
unfoldable pub with_shown_updated : State → State
with_shown_updated s = after_acts (choosing s) (events_of_change s.shown (shown_now s))

unfoldable pub sent_by_shown_update : State → State → List Sent
sent_by_shown_update old s =
    sent_by_acts (choosing s) (events_of_change s.shown (shown_now s)) ++ status s.claims.own (display old) (display (with_shown_updated s))

-- ---- a frame

-- Cannot Claim is sent, and nothing happens any more. A closed set is not shown any more.
abbrev pub losing : State → Step
losing s = record {
  after = record s { lost = true; shown = if is_some (pool_at s s.shown) then s.shown else None };
  sent = ToAll (claim_from NULL_ADDRESS s.claims.name) ∷ [];
}

abbrev pub acted : State → ℕ → FrameMeaning → Frame → Verdict → State
acted s source meaning frame verdict = after_acts (before s source meaning) (acts s source meaning frame verdict)

abbrev pub sent_by_frame : State → ℕ → FrameMeaning → Frame → Verdict → List Sent
sent_by_frame s source meaning frame verdict =
    defence s source meaning ++ sent_by_acts (before s source meaning) (acts s source meaning frame verdict)

-- the step of a frame, from the state before the input and the state after timeouts and closings
abbrev pub acting : State → State → ℕ → FrameMeaning → Frame → Verdict → Step
acting old s source meaning frame verdict = let t = acted s source meaning frame verdict in record {
  after = with_shown_updated t;
  sent = sent_by_frame s source meaning frame verdict ++ sent_by_shown_update old t;
}

abbrev pub hearing : State → State → ℕ → FrameMeaning → Frame → Verdict → Step
hearing old s source meaning frame verdict =
    if is_lost_by (answer_to s source meaning) then losing s else acting old s source meaning frame verdict

abbrev pub behind_lapses : State → Step → Step
behind_lapses s step = record step { sent = sent_by_lapses s ++ step.sent }

abbrev pub step_frame : State → ℕ → Frame → Verdict → Step
step_frame s time frame verdict =
    let t = at_time s time in
    behind_lapses t (hearing s (lapsed t) (source_of frame) (meaning_of s.claims.own s.claims.name frame) frame verdict)

-- ---- an action of the operator

-- whether no set with a pool is shown, or none is at the address to select
abbrev pub has_no_set : State → ActionValue → Bool
has_no_set s (Set address) = not (is_some (pool_of s address))
has_no_set s action = not (is_some (pool_at s s.shown))

abbrev pub selecting : State → ActionValue → State
selecting s (Set address) = if is_some (pool_of s address) then record s { selected = Some address } else s
selecting s action = s

abbrev pub at_shown : Option ℕ → Act → List (ℕ × Act)
at_shown None act = []
at_shown (Some address) act = (address, act) ∷ []

abbrev pub no_set : Bool → List Sent
no_set missing = if missing then Refused NoSet ∷ [] else []

abbrev pub step_action : State → ActionValue → Bool → Step
step_action s action shown =
    let u = selecting s action in let happens = at_shown s.shown (Operates action shown) in let t = after_acts u happens in record {
      after = with_shown_updated t;
      sent = (no_set (has_no_set s action) ++ sent_by_acts u happens) ++ sent_by_shown_update s t;
    }

-- ---- the step

-- After the loss of the address no input has an effect.
abbrev pub step : State → JudgedInput → Step
step s (FrameAt time frame verdict) = if s.lost then no_step s else step_frame s time frame verdict
step s (ActionAt action shown) = if s.lost then no_step s else step_action s action shown

abbrev pub after_all : State → List JudgedInput → State
after_all s [] = s
after_all s (e ∷ events) = after_all (step s e).after events

abbrev pub sent_by_all : State → List JudgedInput → List Sent
sent_by_all s [] = []
sent_by_all s (e ∷ events) = (step s e).sent ++ sent_by_all (step s e).after events

-- ---- preloaded pools

-- A set with a pool is added, and the shown set chosen. No event is raised, and nothing is sent.
abbrev pub preloading : State → ℕ → ObjectMap → State
preloading s address contents = choosing (after_act s address (Preloads contents))
