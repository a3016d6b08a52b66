-- The state of a terminal, and acts at its addresses in order (docs/PROFILE.md, "The step").
use Rattle.std.specs.Prelude.{ℕ, Bool, List, [], ◌∷◌, ◌++◌, map, Option, Some, None}
use Rattle.vt_can.specs.declared.frames.frame.Frame.{Frame}
use Rattle.vt_names.specs.Claims.{Claimed, holder_of}
use Rattle.vt_names.specs.Registry.{Set, set_at, with_set, without}
use Rattle.vt_machine.specs.SetStates.{SetState}
use Rattle.vt_node.specs.AddressFunctions.{with_at}
use Rattle.vt_node.specs.declared.profile.Profile.{Profile}
use Rattle.vt_server.specs.state.AddressStates.{AddressState}
use Rattle.vt_server.specs.state.AddressViews.{AddressView, AddressOutcome, Act, outcome}
use Rattle.vt_server.specs.declared.output.OperatorFault.{OperatorFault}

-- the address claims received, the profile, the sets in order of registration, the state of each address, the addresses of the selected set
-- and of the shown set, whether the own address was lost, and the latest time so far in microseconds
pub record State : Type 0 where
  pub claims : Claimed
  pub profile : Profile
  pub sets : List Set
  pub places : ℕ → AddressState
  pub selected : Option ℕ
  pub shown : Option ℕ
  pub lost : Bool
  pub now : ℕ

-- an item sent: a frame to one address, a frame to all, or a refusal to the operator
pub data Sent : Type 0 where
  ToOne : ℕ → Frame → Sent
  ToAll : Frame → Sent
  Refused : OperatorFault → Sent

-- ---- the view of one address

abbrev pub holder : State → ℕ → Option ℕ
holder s address = holder_of s.claims.addresses address

abbrev pub part : ℕ → State → AddressView
part address s = record {
  terminal = s.claims.own;
  profile = s.profile;
  lost = s.lost;
  holder = holder s address;
  set = set_at address s.sets;
  place = s.places address;
}

abbrev pub pool_of : State → ℕ → Option SetState
pool_of s address = (s.places address).content.pool

-- the pool of an address, if it has one
abbrev pub pool_at : State → Option ℕ → Option SetState
pool_at s None = None
pool_at s (Some address) = pool_of s address

abbrev pub with_set_at : ℕ → Option Set → List Set → List Set
with_set_at address None sets = without address sets
with_set_at address (Some set) sets = with_set set sets

abbrev pub put : ℕ → AddressOutcome → State → State
put address after s = record s { sets = with_set_at address after.set s.sets; places = with_at address after.place s.places }

abbrev pub sent_refusal : Option OperatorFault → List Sent
sent_refusal None = []
sent_refusal (Some fault) = Refused fault ∷ []

abbrev pub to_address : ℕ → AddressOutcome → List Sent
to_address address after = map (ToOne address) after.frames ++ sent_refusal after.refused

-- ---- acts at addresses in order

unfoldable pub after_act : State → ℕ → Act → State
after_act s address act = put address (outcome s.now address (part address s) act) s

unfoldable pub sent_by_act : State → ℕ → Act → List Sent
sent_by_act s address act = to_address address (outcome s.now address (part address s) act)

abbrev pub after_acts : State → List (ℕ × Act) → State
after_acts s [] = s
after_acts s (h ∷ acts) = after_acts (after_act s h.0 h.1) acts

abbrev pub sent_by_acts : State → List (ℕ × Act) → List Sent
sent_by_acts s [] = []
sent_by_acts s (h ∷ acts) = sent_by_act s h.0 h.1 ++ sent_by_acts (after_act s h.0 h.1) acts
