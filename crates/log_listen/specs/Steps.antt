-- The steps of a listener: what a part between two ends makes of the entries of their channels, and what is told. Every list of
-- parts has the latest first.
use Rattle.std.specs.Prelude.{◌≡◌, ◌≤◌, ◌<◌, ℕ, ◌+◌, ◌/◌, ◌%◌, ◌^◌, ◌==◌, if◌then◌else◌, Option, Some, None, List, [], ◌∷◌, ◌++◌, length, IsSome}
use Rattle.std.specs.List.{cons_option}
use Rattle.std.specs.Ordering.{nat_cmp}
use Rattle.std.specs.BTreeMap.{get}
use Rattle.vt_can.specs.transport.Messages.{Message}
use Rattle.log_listen.specs.declared.broken.Broken.{Broken}
use Rattle.log_listen.specs.declared.part.Part.{Part}
use Rattle.log_listen.specs.declared.part.Part.TheVariants.{Request, Packet, Offset, Abort}
use Rattle.log_listen.specs.declared.sent_message.SentMessage.{SentMessage}
use Rattle.log_listen.specs.declared.transfer.Transfer.{Transfer}
use Rattle.log_listen.specs.declared.listener.Ends.{Ends}
use Rattle.log_listen.specs.declared.listener.Listener.{Listener}
use Rattle.log_listen.specs.Channels.{channel_of, sent, refused}
use Rattle.log_listen.specs.Transfers.{packet_count, offset_after, packet_at, MakesWhole}
use Rattle.log_listen.specs.Listeners.{HoldsPackets, IsEntryOf, message_of}

-- A transfer, which may be whole, has the packets that came since its request.
pub record HasPackets (since : List Part) (transfer : Transfer) : Type 0 where
  pub offset : transfer.offset ≡ offset_after since
  pub packets : HoldsPackets since transfer
  pub within : (1 ≤ transfer.missing) × (transfer.missing ≤ packet_count transfer.size + 1)
  pub missing : transfer.missing ≤ packet_count transfer.size → packet_at transfer.missing since ≡ None
  pub before : (earlier : ℕ) → 1 ≤ earlier → earlier < transfer.missing → IsSome (packet_at earlier since)

-- the packet of the first missing place was appended to those before it
pub record IsAppended (packet : List ℕ) (old new : Transfer) : Type 0 where
  pub seven : length packet ≡ 7
  pub offset : new.offset ≡ old.offset
  pub missing : new.missing ≡ old.missing + 1
  pub front : new.front.items ≡ old.front.items ++ packet
  pub beyond : new.beyond ≡ old.beyond

-- the channel from the source to the destination, and the ends of the other direction
abbrev pub channel_between : Ends → ℕ
channel_between ends = channel_of ends.is_extended ends.source ends.destination

abbrev pub swapped : Ends → Ends
swapped ends = record { source = ends.destination; destination = ends.source; is_extended = ends.is_extended }

-- what a part from the source to the destination says in a channel
abbrev pub said_between : Ends → Part → ℕ → Option Part
said_between ends part channel =
    if channel == channel_between ends then sent (Some part)
    else if channel == channel_between (swapped ends) then refused (Some part)
    else None

-- a listener has taken in what was said in each channel
abbrev pub TakesIn : (ℕ → Option Part) → Listener → Listener → Type 0
TakesIn says old new = (channel : ℕ) (parts : List Part) → IsEntryOf parts (get nat_cmp old.transfers channel)
    → IsEntryOf (cons_option (says channel) parts) (get nat_cmp new.transfers channel)

-- what one part says, in one channel
abbrev pub said_only : ℕ → Part → ℕ → Option Part
said_only own part channel = if channel == own then Some part else None

-- a transfer that ended early
abbrev pub broken_of : Ends → Transfer → Broken
broken_of ends transfer = record {
  source = ends.source;
  destination = ends.destination;
  pgn = transfer.pgn;
  size = transfer.size;
  missing = transfer.missing;
}

-- the open transfer of a channel, which has the source in its lowest byte and the destination in the next
abbrev pub unended_of : ℕ → Transfer → Broken
unended_of channel transfer = record {
  source = channel % 2 ^ 8;
  destination = channel / 2 ^ 8 % 2 ^ 8;
  pgn = transfer.pgn;
  size = transfer.size;
  missing = transfer.missing;
}

-- the transfers that a part ends before they are whole, by the entry of its channel
abbrev pub told_by : Ends → Option Part → Option Transfer → List Broken
told_by ends None entry = []
told_by ends (Some part) None = []
told_by ends (Some (Request size pgn)) (Some transfer) = broken_of ends transfer ∷ []
told_by ends (Some (Packet number bytes)) (Some transfer) = []
told_by ends (Some (Offset packets)) (Some transfer) = []
told_by ends (Some (Abort pgn)) (Some transfer) = if transfer.pgn == pgn then broken_of ends transfer ∷ [] else []

-- the transfers that a part ends in both channels
abbrev pub told_in_both : Ends → Part → Listener → List Broken
told_in_both ends part listener =
    told_by ends (sent (Some part)) (get nat_cmp listener.transfers (channel_between ends))
    ++ (if ends.source == ends.destination then [] else told_by (swapped ends) (refused (Some part)) (get nat_cmp listener.transfers (channel_between (swapped ends))))

-- the message that a packet makes whole in its channel, or None if it makes none whole
abbrev pub IsMadeWhole : Ends → List Part → Part → Option SentMessage → Type 0
IsMadeWhole ends parts part None = (message : Message) → MakesWhole parts part message → ⊥
IsMadeWhole ends parts part (Some sent) =
    (sent.source ≡ ends.source) × (sent.destination ≡ ends.destination) × MakesWhole parts part (message_of sent)
