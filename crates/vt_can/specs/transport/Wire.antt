-- Definitions of the bytes common to the frames of both transport protocols (docs/PROFILE.md, "Transport messages").
use Rattle.std.specs.Prelude.{◌≡◌, ℕ, Bool, ◌==◌, ◌&&◌, if◌then◌else◌, Option, Some, None, List, ◌∷◌, length, drop, slice_index}
use Rattle.byteorder.specs.Endian.{little_bytes}
use Rattle.vt_can.specs.declared.frames.frame.Frame.{Frame}
use Rattle.vt_can.specs.declared.transport.wire.Reason.{Reason}
use Rattle.vt_can.specs.declared.transport.wire.Reason.TheVariants.{TooLarge, Timeout, Disorder}
use Rattle.vt_can.specs.Assigned.{ABORT, FILL}
use Rattle.vt_can.specs.frames.Identifier.{parts_of, pgn_of, destination_of}
use Rattle.vt_can.specs.frames.Frame.{is_to}

-- a frame of eight bytes to a node's address
abbrev pub is_transport_frame_to : ℕ → Frame → Bool
is_transport_frame_to own_address frame = is_to own_address (destination_of (parts_of frame.id)) && length frame.bytes.items == 8

-- a frame of neither of the two parameter groups
pub record IsOfAnotherGroup (management transfer : ℕ) (frame : Frame) : Type 0 where
  pub no_management : pgn_of (parts_of frame.id) ≡ management → ⊥
  pub no_transfer : pgn_of (parts_of frame.id) ≡ transfer → ⊥

-- Over the parameter groups of connection management and of data transfer, and the decoding of their bytes:
module _ {F : Type 0} (management transfer : ℕ) (managed : List ℕ → F) (transferred : ℕ → List ℕ → F) where
  abbrev pub by_group : ℕ → List ℕ → Option F
  by_group pgn bytes =
      if pgn == management then Some (managed bytes)
      else if pgn == transfer then Some (transferred (slice_index bytes 0) (drop 1 bytes))
      else None

  -- a frame decoded for a node
  abbrev pub frame_in : ℕ → Frame → Option F
  frame_in own_address frame = if is_transport_frame_to own_address frame then by_group (pgn_of (parts_of frame.id)) frame.bytes.items else None

abbrev pub reason_code : Reason → ℕ
reason_code TooLarge = 2
reason_code Timeout = 3
reason_code Disorder = 7

-- the bytes of the abort of a session, by the parameter group of its message
abbrev pub abort_bytes : Reason → ℕ → List ℕ
abort_bytes reason pgn = ABORT ∷ reason_code reason ∷ FILL ∷ FILL ∷ FILL ∷ little_bytes 3 pgn
