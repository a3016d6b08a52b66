-- The view of one address and its happenings: its set, pool, sessions and frames (docs/PROFILE.md, "One address").
use Rattle.std.specs.Prelude.{ℕ, ◌||◌, Bool, if◌then◌else◌, List, [], ◌++◌, Option, Some, None, nat_eq}
use Rattle.std.specs.Option.{option_eq, option_map, option_to_list}
use Rattle.vt_can.specs.declared.frames.frame.Frame.{Frame}
use Rattle.vt_can.specs.lines.Actions.{ActionValue}
use Rattle.vt_transport.specs.Protocol as tp
use Rattle.vt_extended.specs.Protocol as etp
use Rattle.vt_names.specs.Registry.{Set, mastered, has_place, with_member, preloaded, bound}
use Rattle.vt_stores.specs.Stores.{ObjectMap}
use Rattle.vt_verify.specs.Triggers.{listing}
use Rattle.vt_verify.specs.Budgets.{budget}
use Rattle.vt_machine.specs.SetStates.{SetState, after_run, fresh_set, working_set_in}
use Rattle.vt_macros.specs.AudioOfRuns.{audio_after}
use Rattle.vt_macros.specs.Machines.{event_commands, run, store_of}
use Rattle.vt_effects.specs.Soundness.{shape_in}
use Rattle.vt_machine.specs.OperatorActions as operating
use Rattle.vt_server.specs.message.MessageEffects.{Handled, handled}
use Rattle.vt_node.specs.Messages.{message_to}
use Rattle.vt_node.specs.declared.profile.Profile.{Profile}
use Rattle.vt_server.specs.operator.ActionEffects.{action_on, fault_of, is_busy, message_frames, sending_after, ran}
use Rattle.vt_server.specs.state.AddressStates.{AddressState, no_content, with_content, with_pool, heard_at, untimed_place}
use Rattle.vt_server.specs.frame.SessionEffects.{Came, came, timeout_of, sending_timeout}
use Rattle.vt_server.specs.message.Verdicts.{Verdict}
use Rattle.vt_node.specs.declared.bus.FrameMeaning.{FrameMeaning}
use Rattle.vt_node.specs.declared.bus.FrameMeaning.TheVariants.{Claim, Master, Member}
use Rattle.vt_server.specs.declared.output.OperatorFault.{OperatorFault}
use Rattle.vt_server.specs.declared.output.OperatorFault.TheVariants.{Busy}

-- The view of an address: the terminal's own address, its profile and whether it was lost, the holder of the address, its set,
-- and the other state of the address.
pub record AddressView : Type 0 where
  pub terminal : ℕ
  pub profile : Profile
  pub lost : Bool
  pub holder : Option ℕ
  pub set : Option Set
  pub place : AddressState

-- the view after a happening, the frames sent to the address, and the refusal of an operator's action there
pub record AddressOutcome : Type 0 where
  pub set : Option Set
  pub place : AddressState
  pub frames : List Frame
  pub refused : Option OperatorFault

-- The happenings at an address: a frame from it is received; its holder changes; a pool is preloaded; a session times out; its
-- set falls silent; the operator acts on its set, whose object is shown or not; an event of its Working Set is raised.
pub data Act : Type 0 where
  Hears : FrameMeaning → Frame → Verdict → Act
  Rebinds : Act
  Preloads : ObjectMap → Act
  TpExpires : Act
  EtpExpires : Act
  SendingExpires : Act
  FallsSilent : Act
  Operates : ActionValue → Bool → Act
  Raises : ℕ → Act

abbrev pub unchanged : AddressView → AddressOutcome
unchanged p = record { set = p.set; place = p.place; frames = []; refused = None }

abbrev pub with_other_set : AddressView → Option Set → AddressOutcome
with_other_set p set = record { set = set; place = p.place; frames = []; refused = None }

abbrev pub with_place : AddressView → AddressState → List Frame → AddressOutcome
with_place p place frames = record { set = p.set; place = place; frames = frames; refused = None }

-- an address after its set is closed; its sessions are unchanged
abbrev pub without_set : AddressView → AddressOutcome
without_set p = record { set = None; place = with_content p.place no_content; frames = []; refused = None }

-- ---- claims and registration

-- whether a set of this NAME stays open under a holder: without a NAME, or with the holder's
abbrev pub stays_under : Option ℕ → Option ℕ → Bool
stays_under name holder = (option_eq nat_eq name None) || option_eq nat_eq name holder

-- A set with a NAME other than the holder's is closed.
abbrev pub after_change : AddressView → Option Set → AddressOutcome
after_change p None = unchanged p
after_change p (Some set) = if stays_under set.name p.holder then unchanged p else without_set p

-- A set without a NAME takes the holder's at a claim from its address.
abbrev pub with_holder_name : Set → Option ℕ → Option ℕ → Set
with_holder_name set None (Some holder) = bound set holder
with_holder_name set _ _ = set

abbrev pub after_claim_heard : AddressView → Option Set → AddressOutcome
after_claim_heard p None = unchanged p
after_claim_heard p (Some set) = with_other_set p (Some (with_holder_name set set.name p.holder))

abbrev pub after_master : ℕ → AddressView → Option ℕ → ℕ → AddressOutcome
after_master address p None count = unchanged p
after_master address p (Some holder) count = with_other_set p (Some (mastered address holder count))

abbrev pub after_member : AddressView → Option Set → ℕ → AddressOutcome
after_member p None name = unchanged p
after_member p (Some set) name = with_other_set p (Some (if has_place set then with_member set name else set))

-- ---- messages

abbrev pub with_reply : ℕ → AddressView → Handled → AddressOutcome
with_reply address p done =
    with_place p (with_content p.place done.content) (option_to_list (option_map (message_to p.terminal address) done.reply))

-- A message counts only from the master of a set.
abbrev pub after_message : ℕ → AddressView → Verdict → Option Set → Option (List ℕ) → AddressOutcome
after_message address p verdict (Some set) (Some bytes) = with_reply address p (handled p.profile p.place.content verdict bytes)
after_message address p verdict _ _ = unchanged p

-- The end of a session is sent before the reply to its message.
abbrev pub with_frames_first : List Frame → AddressOutcome → AddressOutcome
with_frames_first frames after = record after { frames = frames ++ after.frames }

abbrev pub after_came : ℕ → AddressView → Verdict → Came → AddressOutcome
after_came address p verdict c = with_frames_first c.frames (after_message address (record p { place = c.place }) verdict p.set c.message)

abbrev pub after_meaning : ℕ → ℕ → AddressView → FrameMeaning → Frame → Verdict → AddressOutcome
after_meaning now address p (Claim name) frame verdict = after_claim_heard p p.set
after_meaning now address p (Master count) frame verdict = after_master address p p.holder count
after_meaning now address p (Member name) frame verdict = after_member p p.set name
after_meaning now address p meaning frame verdict = after_came address p verdict (came now p.terminal address p.place meaning frame)

-- ---- the operator

abbrev pub refused_by : AddressView → OperatorFault → AddressOutcome
refused_by p fault = record (unchanged p) { refused = Some fault }

abbrev pub after_action : ℕ → ℕ → AddressView → Option operating.ActionResult → AddressOutcome
after_action now address p None = unchanged p
after_action now address p (Some (operating.Refused refusal)) = refused_by p (fault_of refusal)
after_action now address p (Some (operating.Acts message start raised)) =
    if is_busy message p.place.sending then refused_by p Busy
    else with_place p (record (with_pool p.place (Some (ran start raised))) { sending = sending_after now message p.place.sending })
    (message_frames p.terminal address message)

abbrev pub after_operator : ℕ → ℕ → AddressView → ActionValue → Bool → Option SetState → AddressOutcome
after_operator now address p action shown None = unchanged p
after_operator now address p action shown (Some state) = after_action now address p (action_on state shown action)

-- ---- events of the Working Set

-- the pool after the macros of an event
abbrev pub raised_on : SetState → ℕ → SetState
raised_on state event =
    let shape = shape_in state.objects in let event_of = listing (working_set_in state.objects) event in
    let steps = budget shape (working_set_in state.objects) event in
    after_run state (store_of (run steps state.objects (event_commands shape event_of)))
    (audio_after steps state.audio state.objects (event_commands shape event_of))

-- ---- the outcome of a happening

abbrev pub outcome : ℕ → ℕ → AddressView → Act → AddressOutcome
outcome now address p (Hears meaning frame verdict) = after_meaning now address (record p { place = heard_at now p.place }) meaning frame verdict
outcome now address p Rebinds = after_change p p.set
outcome now address p (Preloads contents) = record {
  set = Some (preloaded address);
  place = record p.place { content = record { pool = Some (fresh_set contents); transfer = [] }; heard = None };
  frames = [];
  refused = None;
}
outcome now address p TpExpires = with_place p (record p.place { tp = None }) (timeout_of tp.protocol p.terminal address p.place.tp)
outcome now address p EtpExpires = with_place p (record p.place { etp = None }) (timeout_of etp.protocol p.terminal address p.place.etp)
outcome now address p SendingExpires = with_place p (record p.place { sending = None }) (sending_timeout p.terminal address p.place.sending)
outcome now address p FallsSilent = without_set p
outcome now address p (Operates action shown) = after_operator now address p action shown p.place.content.pool
outcome now address p (Raises event) = with_place p (with_pool p.place (option_map (λ state. raised_on state event) p.place.content.pool)) []

-- ---- views without times

abbrev pub untimed_part : AddressView → AddressView
untimed_part p = record p { place = untimed_place p.place }

abbrev pub untimed_outcome : AddressOutcome → AddressOutcome
untimed_outcome after = record after { place = untimed_place after.place }
