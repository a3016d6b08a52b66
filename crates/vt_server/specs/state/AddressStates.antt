-- The state of an address beside its set: its pool and upload, its sessions, and the time of its last frame (docs/PROFILE.md,
-- "What a set has", "Transport", "Silence").
use Rattle.std.specs.Prelude.{ℕ, ◌+◌, ◌-◌, ◌^◌, min, List, [], ◌++◌, length, Option, Some, None, unwrap_or}
use Rattle.vt_can.specs.Assigned.{ECU_TO_VT, TRANSFER}
use Rattle.vt_can.specs.declared.transport.sessions.Timed.{Timed}
use Rattle.vt_can.specs.transport.Messages.{Message}
use Rattle.vt_can.specs.transport.Sessions.{untimed_session}
use Rattle.vt_transport.specs.SessionState as tp
use Rattle.vt_extended.specs.SessionState as etp
use Rattle.vt_machine.specs.SetStates.{SetState}
use Rattle.vt_node.specs.Arrivals.{arrived_at}
use Rattle.vt_server.specs.declared.sets.Progress.{Progress}

-- the content of an address, changed by messages from a set's master: its pool, and the bytes of its upload
pub record SetPool : Type 0 where
  pub pool : Option SetState
  pub transfer : List ℕ

abbrev pub no_content : SetPool
no_content = record { pool = None; transfer = [] }

abbrev pub with_piece : SetPool → List ℕ → SetPool
with_piece content bytes = record content { transfer = content.transfer ++ bytes }

-- The state of an address: its content; the sessions in which it sends and the one in which it is sent a message, each with the
-- time of its last frame; and the time of its own last frame, None from a preload to the next frame line.
pub record AddressState : Type 0 where
  pub content : SetPool
  pub tp : Option (Timed tp.SessionState)
  pub etp : Option (Timed etp.SessionState)
  pub sending : Option (Timed Message)
  pub heard : Option ℕ

-- the state of an address without content and sessions
abbrev pub empty : AddressState
empty = record { content = no_content; tp = None; etp = None; sending = None; heard = Some 0 }

abbrev pub with_content : AddressState → SetPool → AddressState
with_content place content = record place { content = content }

abbrev pub with_pool : AddressState → Option SetState → AddressState
with_pool place pool = record place { content = record place.content { pool = pool } }

-- an address after a frame from it
abbrev pub heard_at : ℕ → AddressState → AddressState
heard_at now place = record place { heard = Some now }

-- At a frame line the silence of an address preloaded before it begins.
abbrev pub watched : ℕ → AddressState → AddressState
watched now place = record place { heard = Some (unwrap_or place.heard now) }

-- the state of an address without times
abbrev pub untimed_place : AddressState → AddressState
untimed_place place = record place {
  tp = untimed_session place.tp;
  etp = untimed_session place.etp;
  sending = untimed_session place.sending;
  heard = None;
}

-- ---- the progress of an upload

-- The bytes of the pool that have come, and those that have come or are announced: the whole pieces, and the message that is arriving without
-- its first byte, which says that it is a piece.
abbrev pub progress_by : ℕ → ℕ × ℕ → Progress
progress_by whole arriving =
    record { came = min (whole + (arriving.0 - 1)) (2 ^ 64 - 1); announced = min (whole + (arriving.1 - 1)) (2 ^ 64 - 1) }

abbrev pub progress_of : AddressState → Progress
progress_of place = progress_by (length place.content.transfer) (arrived_at ECU_TO_VT TRANSFER place.tp place.etp)
