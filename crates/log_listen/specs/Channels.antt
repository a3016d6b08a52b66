-- The channel of a transfer: the sender, the other end and the protocol, as the identifier of the frames with its packets.
use Rattle.std.specs.Prelude.{ℕ, Bool, ◌==◌, if◌then◌else◌, Option, Some, None, List}
use Rattle.std.specs.List.{filter_map}
use Rattle.vt_can.specs.declared.frames.frame.Frame.{Frame}
use Rattle.vt_can.specs.Assigned.{ETP_DT, TP_DT, VT_TO_ECU}
use Rattle.vt_can.specs.frames.Identifier.{parts_of, pgn_of, destination_of, addressed, raw_of}
use Rattle.vt_can.specs.frames.Frame.{source_of}
use Rattle.log_listen.specs.declared.part.Part.{Part}
use Rattle.log_listen.specs.declared.part.Part.TheVariants.{Request, Packet, Offset, Abort}
use Rattle.log_listen.specs.Parts.{is_extended, part_in}

-- the identifier of the packets of a protocol, from one address to another, with priority 7
abbrev pub channel_of : Bool → ℕ → ℕ → ℕ
channel_of extended source destination = raw_of (addressed 7 (if extended then ETP_DT else TP_DT) destination source)

-- the channel in which a frame to a destination is sent, and the one in the other direction
abbrev pub own_channel : Frame → ℕ → ℕ
own_channel frame destination = channel_of (is_extended (pgn_of (parts_of frame.id))) (source_of frame) destination

abbrev pub other_channel : Frame → ℕ → ℕ
other_channel frame destination = channel_of (is_extended (pgn_of (parts_of frame.id))) destination (source_of frame)

-- A sender's part in its channel. Its abort of VT_TO_ECU is about a message to it.
abbrev pub sent : Option Part → Option Part
sent None = None
sent (Some (Request size pgn)) = Some (Request size pgn)
sent (Some (Packet number bytes)) = Some (Packet number bytes)
sent (Some (Offset packets)) = Some (Offset packets)
sent (Some (Abort pgn)) = if pgn == VT_TO_ECU then None else Some (Abort pgn)

-- the part of the other end in a channel: an abort
abbrev pub refused : Option Part → Option Part
refused None = None
refused (Some (Request size pgn)) = None
refused (Some (Packet number bytes)) = None
refused (Some (Offset packets)) = None
refused (Some (Abort pgn)) = Some (Abort pgn)

-- what a frame to a destination says in a channel
abbrev pub said_to : ℕ → Frame → Option ℕ → Option Part
said_to channel frame None = None
said_to channel frame (Some destination) =
    if channel == own_channel frame destination then sent (part_in frame)
    else if channel == other_channel frame destination then refused (part_in frame)
    else None

abbrev pub said : ℕ → Frame → Option Part
said channel frame = said_to channel frame (destination_of (parts_of frame.id))

-- The parts that frames say in a channel. Both lists have the latest first.
abbrev pub parts_in : ℕ → List Frame → List Part
parts_in channel frames = filter_map (said channel) frames
