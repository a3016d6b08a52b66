-- The destinations and the number of the frames of a step (docs/PROFILE.md, "The outputs of one input").
use Rattle.std.specs.Prelude.{◌≡◌, ◌<◌, ◌≤◌, ◌^◌, ◌⊎◌, ℕ, List, [], ◌∷◌, length, slice_index, IfSome}
use Rattle.vt_can.specs.declared.frames.frame.Frame.{Frame}
use Rattle.vt_can.specs.Assigned.{ADDRESS_CLAIMED, ETP_CM, GLOBAL_ADDRESS, NULL_ADDRESS, TP_CM, TP_DT, VT_TO_ECU}
use Rattle.vt_can.specs.frames.Identifier.{parts_of, addressed}
use Rattle.vt_server.specs.Steps.{JudgedInput, FrameAt, ActionAt, step}
use Rattle.vt_server.specs.Terminals.{State, Sent, ToOne, ToAll, Refused}

-- a frame to one address: a message, with priority 5; a session control frame of either protocol, or a packet of a message, with
-- priority 7
abbrev pub IsToOne : ℕ → ℕ → Frame → Type 0
IsToOne own address frame =
    (parts_of frame.id ≡ addressed 5 VT_TO_ECU address own)
    ⊎ ((parts_of frame.id ≡ addressed 7 TP_CM address own)
    ⊎ ((parts_of frame.id ≡ addressed 7 ETP_CM address own) ⊎ (parts_of frame.id ≡ addressed 7 TP_DT address own)))

-- a frame to all: the terminal's claim, Cannot Claim, or a status
abbrev pub IsToAll : ℕ → Frame → Type 0
IsToAll own frame =
    (parts_of frame.id ≡ addressed 6 ADDRESS_CLAIMED GLOBAL_ADDRESS own)
    ⊎ ((parts_of frame.id ≡ addressed 6 ADDRESS_CLAIMED GLOBAL_ADDRESS NULL_ADDRESS)
    ⊎ (parts_of frame.id ≡ addressed 5 VT_TO_ECU GLOBAL_ADDRESS own))

abbrev pub IsAddressed : ℕ → Sent → Type 0
IsAddressed own (ToOne address frame) = IsToOne own address frame
IsAddressed own (ToAll frame) = IsToAll own frame
IsAddressed own (Refused fault) = Unit {0}

abbrev pub AreAddressed : ℕ → List Sent → Type 0
AreAddressed own [] = Unit {0}
AreAddressed own (s ∷ sent) = IsAddressed own s × AreAddressed own sent

-- The terminal's own address and the address of the shown set are bytes.
pub record HasAddresses (s : State) : Type 0 where
  pub own : s.claims.own < 2 ^ 8
  pub shown : IfSome s.shown (λ address. address < 2 ^ 8)

-- Byte 1 of a frame, the number of packets in a CTS, is below 256.
abbrev pub HasByte : JudgedInput → Type 0
HasByte (FrameAt time frame verdict) = slice_index frame.bytes.items 1 < 2 ^ 8
HasByte (ActionAt action shown) = Unit {0}

pub record SentAreAddressed : Type 0 where
  pub each : (s : State) (e : JudgedInput) → HasAddresses s → AreAddressed s.claims.own (step s e).sent
  pub few : (s : State) (e : JudgedInput) → HasByte e → length (step s e).sent ≤ 1024
