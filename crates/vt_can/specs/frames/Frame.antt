-- Frames from one node to another.
use Rattle.std.specs.Prelude.{ℕ, Bool, false, ◌==◌, Option, Some, None, List}
use Rattle.vt_can.specs.declared.frames.frame.Frame.{Frame}
use Rattle.vt_can.specs.frames.Identifier.{parts_of, raw_of, addressed}

abbrev pub source_of : Frame → ℕ
source_of frame = (parts_of frame.id).source

abbrev pub is_to : ℕ → Option ℕ → Bool
is_to own_address None = false
is_to own_address (Some destination) = destination == own_address

-- the frame of a parameter group, with priority 7
abbrev pub frame_of : ℕ → ℕ → ℕ → List ℕ → Frame
frame_of pgn own_address to bytes = record { id = raw_of (addressed 7 pgn to own_address); bytes = record { items = bytes } }
