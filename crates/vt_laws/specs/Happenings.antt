-- The happenings at one address, and their effect on its view (docs/PROFILE.md, "One address").
use Rattle.std.specs.Prelude.{◌≡◌, ◌≢◌, ℕ, ◌==◌, ◌&&◌, Bool, true, false, if◌then◌else◌, List, [], ◌∷◌, ◌++◌, Option, Some, None, nat_eq, is_some}
use Rattle.std.specs.List.{AllZip}
use Rattle.std.specs.Option.{option_eq}
use Rattle.vt_can.specs.Assigned.{TP_TIMEOUT, ETP_TIMEOUT, SENDER_TIMEOUT}
use Rattle.vt_can.specs.declared.frames.frame.Frame.{Frame}
use Rattle.vt_can.specs.frames.Frame.{source_of}
use Rattle.vt_can.specs.lines.Actions.{ActionValue}
use Rattle.vt_can.specs.transport.Sessions.{is_overdue}
use Rattle.vt_names.specs.Claims.{Claimed, holder_of}
use Rattle.vt_names.specs.Registry.{Set, set_at}
use Rattle.vt_stores.specs.Stores.{ObjectMap}
use Rattle.vt_node.specs.Bus.{meaning_of, frame_meaning}
use Rattle.vt_server.specs.shown.ShownSet.{shown_now, ACTIVATE, DEACTIVATE}
use Rattle.vt_server.specs.Judgements.{AreJudgedRight}
use Rattle.vt_server.specs.frame.TimeoutActs.{at_time, lapsed}
use Rattle.vt_node.specs.Watches.{is_silent}
use Rattle.vt_server.specs.state.StateInvariants.{IsOrderly, IsOther}
use Rattle.vt_server.specs.state.AddressViews.{AddressView, Act, Hears, Rebinds, Preloads, TpExpires, EtpExpires, SendingExpires, FallsSilent, Operates, Raises, outcome, untimed_part}
use Rattle.vt_laws.specs.Responses.{Response, without_effect, response_of, frames_to}
use Rattle.vt_server.specs.Steps.{JudgedInput, FrameAt, ActionAt, step, after_all, sent_by_all, acted, selecting, at_shown, receive_claim, answer_to, is_lost_by, preloading}
use Rattle.vt_server.specs.Terminals.{State, holder, part, after_acts}
use Rattle.vt_server.specs.message.Verdicts.{Verdict}

-- The happenings at an address. A receiving session by either protocol times out, or the sending session does. Its set falls
-- silent. The terminal loses its own address. The address has another holder. A frame comes from it, with the verdict on the
-- upload that the frame ends. The operator acts on its set, whose object is shown or not. An event of its Working Set is raised.
-- A pool is preloaded.
pub data Happening : Type 0 where
  TpExpired : Happening
  EtpExpired : Happening
  SendingExpired : Happening
  FellSilent : Happening
  Lost : Happening
  HolderIs : Option ℕ → Happening
  FrameHeard : Frame → Verdict → Happening
  Operated : ActionValue → Bool → Happening
  EventRaised : ℕ → Happening
  Preloaded : ObjectMap → Happening

-- ---- the response of an address, by its own view alone

abbrev pub with_holder : AddressView → Option ℕ → AddressView
with_holder p name = record p { holder = name }

-- The response to an act at the address. It does not depend on the time.
abbrev pub by_act : ℕ → AddressView → Act → Response
by_act address p act = response_of p (outcome 0 address p act)

-- the response while the terminal has its own address; the loss removes the holder from the view
abbrev pub response_while : ℕ → AddressView → Happening → Response
response_while address p TpExpired = by_act address p TpExpires
response_while address p EtpExpired = by_act address p EtpExpires
response_while address p SendingExpired = by_act address p SendingExpires
response_while address p FellSilent = by_act address p FallsSilent
response_while address p Lost = without_effect (record p { lost = true; holder = None })
response_while address p (HolderIs name) = by_act address (with_holder p name) Rebinds
response_while address p (FrameHeard frame verdict) = by_act address p (Hears (frame_meaning p.terminal frame) frame verdict)
response_while address p (Operated action shown) = by_act address p (Operates action shown)
response_while address p (EventRaised event) = by_act address p (Raises event)
response_while address p (Preloaded contents) = by_act address p (Preloads contents)

-- After the loss of the own address no happening has an effect.
abbrev pub response : ℕ → AddressView → Happening → Response
response address p happening = if p.lost then without_effect p else response_while address p happening

abbrev pub part_after_all : ℕ → AddressView → List Happening → AddressView
part_after_all address p [] = p
part_after_all address p (h ∷ happenings) = part_after_all address (response address p h).part happenings

abbrev pub frames_of_all : ℕ → AddressView → List Happening → List Frame
frames_of_all address p [] = []
frames_of_all address p (h ∷ happenings) = (response address p h).frames ++ frames_of_all address (response address p h).part happenings

-- The view of an address in a state, without times. It has a holder only while the terminal has its own address.
abbrev pub own_part : ℕ → State → AddressView
own_part address s = untimed_part (with_holder (part address s) (if s.lost then None else holder s address))

-- ---- the happenings of an address other than the terminal's own

abbrev pub if_so : Bool → Happening → List Happening
if_so true happening = happening ∷ []
if_so false happening = []

abbrev pub is_at : ℕ → Option ℕ → Bool
is_at address found = option_eq nat_eq found (Some address)

-- the happenings by the time of a frame: timeouts of sessions, and the closing of a silent set
abbrev pub lapses : ℕ → State → List Happening
lapses address s =
    if_so (is_overdue TP_TIMEOUT s.now (s.places address).tp) TpExpired
    ++ (if_so (is_overdue ETP_TIMEOUT s.now (s.places address).etp) EtpExpired
    ++ (if_so (is_overdue SENDER_TIMEOUT s.now (s.places address).sending) SendingExpired
    ++ if_so (is_some (set_at address s.sets) && is_silent s.now (s.places address).heard) FellSilent))

-- whether the terminal loses its address by a frame
abbrev pub loses : State → Frame → Bool
loses s frame = is_lost_by (answer_to s (source_of frame) (meaning_of s.claims.own s.claims.name frame))

-- the address claims after a frame by which the own address is not lost
abbrev pub claims_after : State → Frame → Claimed
claims_after s frame = receive_claim s (source_of frame) (meaning_of s.claims.own s.claims.name frame)

abbrev pub holder_change : ℕ → Claimed → Claimed → List Happening
holder_change address old new =
    if option_eq nat_eq (holder_of old.addresses address) (holder_of new.addresses address) then []
    else HolderIs (holder_of new.addresses address) ∷ []

-- the events of a change of the shown set
abbrev pub events_at : ℕ → Option ℕ → Option ℕ → List Happening
events_at address was now =
    if option_eq nat_eq was now then [] else if_so (is_at address was) (EventRaised DEACTIVATE) ++ if_so (is_at address now) (EventRaised ACTIVATE)

-- the happenings of a frame, after a change of the holder
abbrev pub heard_happenings : ℕ → State → Frame → Verdict → List Happening
heard_happenings address s frame verdict =
    holder_change address s.claims (claims_after s frame) ++ if_so (source_of frame == address) (FrameHeard frame verdict)

-- the state after a frame, before the shown set is chosen
abbrev pub after_frame : State → Frame → Verdict → State
after_frame s frame verdict = acted s (source_of frame) (meaning_of s.claims.own s.claims.name frame) frame verdict

abbrev pub after_action_at : State → ActionValue → Bool → State
after_action_at s action shown = after_acts (selecting s action) (at_shown s.shown (Operates action shown))

abbrev pub frame_happenings : ℕ → State → Frame → Verdict → List Happening
frame_happenings address s frame verdict =
    if loses s frame then Lost ∷ []
    else heard_happenings address s frame verdict ++ events_at address s.shown (shown_now (after_frame s frame verdict))

abbrev pub happenings : ℕ → State → JudgedInput → List Happening
happenings address s (FrameAt time frame verdict) =
    if s.lost then [] else lapses address (at_time s time) ++ frame_happenings address (lapsed (at_time s time)) frame verdict
happenings address s (ActionAt action shown) =
    if s.lost then []
    else if_so (is_at address s.shown) (Operated action shown) ++ events_at address s.shown (shown_now (after_action_at s action shown))

abbrev pub happenings_all : ℕ → State → List JudgedInput → List Happening
happenings_all address s [] = []
happenings_all address s (e ∷ events) = happenings address s e ++ happenings_all address (step s e).after events

-- ---- each address is changed by its own happenings alone

pub record EachTakesItsOwn : Type 0 where
  -- a step, the view of an address after it, and the frames to the address
  pub part_after : (address : ℕ) (s : State) (e : JudgedInput) → IsOrderly s → IsOther address s
      → own_part address (step s e).after ≡ part_after_all address (own_part address s) (happenings address s e)
  pub frames_after : (address : ℕ) (s : State) (e : JudgedInput) → IsOrderly s → IsOther address s
      → frames_to address (step s e).sent ≡ frames_of_all address (own_part address s) (happenings address s e)
  -- An input without a happening at an address leaves its view unchanged.
  pub quiet : (address : ℕ) (s : State) (e : JudgedInput) → IsOrderly s → IsOther address s → happenings address s e ≡ []
      → own_part address (step s e).after ≡ own_part address s
  -- a preloaded pool, at its address and at others
  pub preloaded : (address : ℕ) (s : State) (contents : ObjectMap) → s.lost ≡ false
      → own_part address (preloading s address contents) ≡ part_after_all address (own_part address s) (Preloaded contents ∷ [])
  pub preloaded_elsewhere : (address other : ℕ) (s : State) (contents : ObjectMap) → other ≢ address
      → own_part other (preloading s address contents) ≡ own_part other s

-- ---- the happenings of an address decide its view, whatever other nodes send

-- The same frame, action or other happening. The judgements of pools may differ, as where two verdicts on an upload are right.
abbrev pub AreAlike : Happening → Happening → Type 0
AreAlike (FrameHeard frame verdict) (FrameHeard other found) = frame ≡ other
AreAlike (Operated action shown) (Operated other seen) = action ≡ other
AreAlike h k = h ≡ k

-- the same view of an address after two runs, and the same frames to it
pub record IsSameAt (address : ℕ) (s t : State) (xs ys : List JudgedInput) : Type 0 where
  pub part : own_part address (after_all s xs) ≡ own_part address (after_all t ys)
  pub frames : frames_to address (sent_by_all s xs) ≡ frames_to address (sent_by_all t ys)

-- Two runs with the same happenings at an address, from the same view of it, leave the same view and send it the same frames,
-- whatever other nodes send. The judgements may be the same, or different but right.
pub record OwnHappeningsDecide : Type 0 where
  pub same : (address : ℕ) (s t : State) (xs ys : List JudgedInput) → IsOrderly s → IsOrderly t → IsOther address s → IsOther address t
      → own_part address s ≡ own_part address t → happenings_all address s xs ≡ happenings_all address t ys → IsSameAt address s t xs ys
  pub alike : (address : ℕ) (s t : State) (xs ys : List JudgedInput) → IsOrderly s → IsOrderly t → IsOther address s → IsOther address t
      → AreJudgedRight s xs → AreJudgedRight t ys
      → own_part address s ≡ own_part address t → AllZip AreAlike (happenings_all address s xs) (happenings_all address t ys) → IsSameAt address s t xs ys

-- ---- after every input a set with a NAME has that of its address's holder (the own address has no set)

abbrev pub NameIsHeld : Option ℕ → Option ℕ → Type 0
NameIsHeld None holder = Unit {0}
NameIsHeld (Some name) holder = holder ≡ Some name

abbrev pub SetIsHeld : Option Set → Option ℕ → Type 0
SetIsHeld None holder = Unit {0}
SetIsHeld (Some set) holder = NameIsHeld set.name holder

abbrev pub SetsAreHeld : State → Type 0
SetsAreHeld s = (address : ℕ) → address ≢ s.claims.own → SetIsHeld (set_at address s.sets) (holder s address)

pub record SetsHoldTheirAddress : Type 0 where
  pub first : (s : State) → s.sets ≡ [] → SetsAreHeld s
  pub preloaded : (address : ℕ) (s : State) (contents : ObjectMap) → SetsAreHeld s → SetsAreHeld (preloading s address contents)
  pub kept : (s : State) (e : JudgedInput) → IsOrderly s → SetsAreHeld s → SetsAreHeld (step s e).after
  pub orderly : (s : State) (e : JudgedInput) → IsOrderly s → IsOrderly (step s e).after
  pub orderly_preloaded : (address : ℕ) (s : State) (contents : ObjectMap) → IsOrderly s → IsOrderly (preloading s address contents)
