-- A listener by the frames that it has heard. Every list of frames and of parts has the latest first.
use Rattle.std.specs.Prelude.{◌≡◌, ◌≢◌, ◌≤◌, ◌<◌, ◌↔◌, ℕ, ◌+◌, ◌*◌, ◌^◌, Bool, Option, Some, None, List, IsSome, Contains, length, take, drop, slice_index_or}
use Rattle.std.specs.Ordering.{nat_cmp}
use Rattle.std.specs.BTreeMap.{get}
use Rattle.vt_can.specs.declared.frames.frame.Frame.{Frame}
use Rattle.vt_can.specs.transport.Messages.{Message}
use Rattle.log_listen.specs.declared.broken.Broken.{Broken}
use Rattle.log_listen.specs.declared.part.Part.{Part}
use Rattle.log_listen.specs.declared.part.Part.TheVariants.{Request, Packet, Offset, Abort}
use Rattle.log_listen.specs.declared.sent_message.SentMessage.{SentMessage}
use Rattle.log_listen.specs.declared.transfer.Transfer.{Transfer}
use Rattle.log_listen.specs.declared.listener.Listener.{Listener}
use Rattle.log_listen.specs.Channels.{channel_of, parts_in, said}
use Rattle.log_listen.specs.Transfers.{packet_count, offset_after, packet_at, IsRequested, IsOpen, Completes}

-- the first place without its packet
pub record IsFirstMissing (parts : List Part) (size place : ℕ) : Type 0 where
  pub within : (1 ≤ place) × (place ≤ packet_count size)
  pub missing : packet_at place parts ≡ None
  pub before : (earlier : ℕ) → 1 ≤ earlier → earlier < place → IsSome (packet_at earlier parts)

-- A transfer holds the packets since its request: in front the bytes of those before the first missing one, seven of each, and those
-- beyond it by their places.
pub record HoldsPackets (since : List Part) (transfer : Transfer) : Type 0 where
  pub whole : length transfer.front.items + 7 ≡ 7 * transfer.missing
  pub front : (before : ℕ) → before + 1 < transfer.missing → packet_at (before + 1) since ≡ Some (take 7 (drop (7 * before) transfer.front.items))
  pub beyond : (place : ℕ) → transfer.missing ≤ place → place ≤ packet_count transfer.size → get nat_cmp transfer.beyond place ≡ packet_at place since

-- the state of an open transfer, by the parts in its channel
pub record IsStateOf (parts : List Part) (transfer : Transfer) : Type 0 where
  pub since : List Part
  pub requested : IsRequested parts transfer.size transfer.pgn since
  pub offset : transfer.offset ≡ offset_after since
  pub packets : HoldsPackets since transfer
  pub missing : IsFirstMissing since transfer.size transfer.missing

-- the entry of a channel: the open transfer, if there is one
pub record IsEntryOf (parts : List Part) (entry : Option Transfer) : Type 0 where
  pub stands : (transfer : Transfer) → entry ≡ Some transfer → IsStateOf parts transfer
  pub closed : entry ≡ None → (size pgn : ℕ) (since : List Part) → IsOpen parts size pgn since → ⊥

-- a listener has heard these frames: it has the open transfer of each channel
abbrev pub HasHeard : List Frame → Listener → Type 0
HasHeard frames listener = (channel : ℕ) → IsEntryOf (parts_in channel frames) (get nat_cmp listener.transfers channel)

-- the message in a message that was sent
abbrev pub message_of : SentMessage → Message
message_of sent = record { pgn = sent.pgn; bytes = sent.bytes.items }

-- the message that a frame makes whole in a channel, after these frames
abbrev pub CompletesAt : List Frame → Frame → ℕ → Message → Type 0
CompletesAt frames frame channel message = Completes (parts_in channel frames) (said channel frame) message

-- a message was sent from one end of a channel to the other
abbrev pub IsInChannel : SentMessage → ℕ → Type 0
IsInChannel sent channel = (extended : Bool) × (channel ≡ channel_of extended sent.source sent.destination)

-- The answer to a frame after these frames: the message that it makes whole, or None if it makes none whole.
abbrev pub IsAnswer : List Frame → Frame → Option SentMessage → Type 0
IsAnswer frames frame None = (channel : ℕ) (message : Message) → CompletesAt frames frame channel message → ⊥
IsAnswer frames frame (Some sent) = (channel : ℕ) × IsInChannel sent channel × CompletesAt frames frame channel (message_of sent)

-- a part ends the transfer of a message of a parameter group before it is whole: a new request, or an abort of its group
abbrev pub Ends : ℕ → Option Part → Type 0
Ends pgn None = ⊥
Ends pgn (Some (Request size other)) = Unit {0}
Ends pgn (Some (Packet number bytes)) = ⊥
Ends pgn (Some (Offset packets)) = ⊥
Ends pgn (Some (Abort other)) = other ≡ pgn

-- a transfer that a frame ends before it is whole, after these frames, with the first packet that is missing
pub record IsBrokenBy (frames : List Frame) (frame : Frame) (broken : Broken) : Type 0 where
  pub addresses : (broken.source < 2 ^ 8) × (broken.destination < 2 ^ 8)
  pub extended : Bool
  pub since : List Part
  pub stood : IsOpen (parts_in (channel_of extended broken.source broken.destination) frames) broken.size broken.pgn since
  pub ended : Ends broken.pgn (said (channel_of extended broken.source broken.destination) frame)
  pub missing : IsFirstMissing since broken.size broken.missing

-- a list has exactly the transfers that a frame ends before they are whole, each once
pub record AreBrokenBy (frames : List Frame) (frame : Frame) (list : List Broken) : Type 0 where
  pub told : (broken : Broken) → Contains list broken ↔ IsBrokenBy frames frame broken
  pub once : (j k : ℕ) (d : Broken) → j < k → k < length list → slice_index_or list j d ≢ slice_index_or list k d
