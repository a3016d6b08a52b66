-- The transfer of a message in packets, by the parts that were said in its channel. Every list of parts and of packets has the
-- latest first.
use Rattle.std.specs.Prelude.{◌≡◌, ◌≢◌, ◌≤◌, ℕ, ◌+◌, ◌/◌, ◌==◌, if◌then◌else◌, Option, Some, None, List, [], ◌∷◌, ◌++◌, length, take}
use Rattle.vt_can.specs.transport.Messages.{Message, joined}
use Rattle.log_listen.specs.declared.part.Part.{Part}
use Rattle.log_listen.specs.declared.part.Part.TheVariants.{Request, Packet, Offset, Abort}

-- how many packets a message of this size has, seven bytes each
abbrev pub packet_count : ℕ → ℕ
packet_count size = (size + 6) / 7

-- the number of packets before those that come next: the last one said
abbrev pub offset_after : List Part → ℕ
offset_after [] = 0
offset_after (Offset packets ∷ parts) = packets
offset_after (Request size pgn ∷ parts) = offset_after parts
offset_after (Packet number bytes ∷ parts) = offset_after parts
offset_after (Abort pgn ∷ parts) = offset_after parts

-- the packet at a place of the message, counted from 1: the last one that came with its number
abbrev pub packet_at : ℕ → List Part → Option (List ℕ)
packet_at place [] = None
packet_at place (Packet number bytes ∷ parts) = if place == offset_after parts + number then Some bytes else packet_at place parts
packet_at place (Offset packets ∷ parts) = packet_at place parts
packet_at place (Request size pgn ∷ parts) = packet_at place parts
packet_at place (Abort pgn ∷ parts) = packet_at place parts

-- the packets of the first places, each the one at its place
abbrev pub AreAtPlaces : List Part → List (List ℕ) → Type 0
AreAtPlaces parts [] = Unit {0}
AreAtPlaces parts (packet ∷ packets) = (packet_at (length packets + 1) parts ≡ Some packet) × AreAtPlaces parts packets

-- all packets of a message of this size have come
pub record HasAll (parts : List Part) (size : ℕ) (packets : List (List ℕ)) : Type 0 where
  pub places : AreAtPlaces parts packets
  pub all : length packets ≡ packet_count size

-- a part leaves the transfer of a message of this parameter group open: it is no new request and no abort of it
abbrev pub LeavesOpen : ℕ → Part → Type 0
LeavesOpen pgn (Request size other) = ⊥
LeavesOpen pgn (Packet number bytes) = Unit {0}
LeavesOpen pgn (Offset packets) = Unit {0}
LeavesOpen pgn (Abort other) = other ≢ pgn

abbrev pub AllLeaveOpen : ℕ → List Part → Type 0
AllLeaveOpen pgn [] = Unit {0}
AllLeaveOpen pgn (part ∷ parts) = LeavesOpen pgn part × AllLeaveOpen pgn parts

-- These parts came since the request of a message, which is not empty, and none of them has ended its transfer.
pub record IsRequested (parts : List Part) (size pgn : ℕ) (since : List Part) : Type 0 where
  pub earlier : List Part
  pub split : parts ≡ since ++ Request size pgn ∷ earlier
  pub some : 1 ≤ size
  pub stays : AllLeaveOpen pgn since

-- a transfer is open, and lacks a packet
pub record IsOpen (parts : List Part) (size pgn : ℕ) (since : List Part) : Type 0 where
  pub requested : IsRequested parts size pgn since
  pub lacks : (packets : List (List ℕ)) → HasAll since size packets → ⊥

-- a packet
abbrev pub IsPacket : Part → Type 0
IsPacket (Request size pgn) = ⊥
IsPacket (Packet number bytes) = Unit {0}
IsPacket (Offset packets) = ⊥
IsPacket (Abort pgn) = ⊥

-- a part is the packet that an open transfer lacked, and makes its message whole
pub record MakesWhole (parts : List Part) (part : Part) (message : Message) : Type 0 where
  pub size : ℕ
  pub since : List Part
  pub transfer : IsOpen parts size message.pgn since
  pub packet : IsPacket part
  pub packets : List (List ℕ)
  pub all : HasAll (part ∷ since) size packets
  pub bytes : message.bytes ≡ take size (joined packets)

-- a frame that says nothing makes no message whole
abbrev pub Completes : List Part → Option Part → Message → Type 0
Completes parts None message = ⊥
Completes parts (Some part) message = MakesWhole parts part message
