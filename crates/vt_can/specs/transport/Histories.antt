-- The history of one source in any transport protocol, and its messages. Every list of session events has the latest first.
use Rattle.std.specs.Prelude.{◌≡◌, ◌<◌, ◌≤◌, ℕ, ◌*◌, Bool, true, List, [], ◌∷◌, ◌++◌, take}
use Rattle.vt_can.specs.transport.Messages.{Message}

-- A frame of the protocol came from the source, or its session was aborted for silence.
pub data SessionEvent (F : Type 0) : Type 0 where
  Came : F → SessionEvent F
  TimedOut : SessionEvent F

module _ {F : Type 0} where
  -- session events without their times
  abbrev pub untimed : List (ℕ × SessionEvent F) → List (SessionEvent F)
  untimed [] = []
  untimed (x ∷ xs) = x.1 ∷ untimed xs

-- The encoding of messages in frames (F): a request (O), and the packets (P) after it.
pub record Spelling (F O P : Type 0) : Type 1 where
  -- the frame of a request, and whether it opens a session
  pub request : O → F
  pub opens : O → Bool
  -- the size, the parameter group and the number of packets of a request's message
  pub size : O → ℕ
  pub pgn : O → ℕ
  pub total : O → ℕ
  -- a session event other than a request, a timeout or an abort of the session
  pub IsQuiet : SessionEvent F → Type 0
  -- the session events after a request bring exactly these packets, in their order
  pub Brings : O → List (SessionEvent F) → P → Type 0
  -- the number of packets, and their bytes
  pub count : P → ℕ
  pub bytes : P → List ℕ
  -- a session event with a packet
  pub IsPacket : SessionEvent F → Type 0

module _ {F O P : Type 0} (spelling : Spelling F O P) where
  abbrev pub AreQuiet : List (SessionEvent F) → Type 0
  AreQuiet [] = Unit {0}
  AreQuiet (h ∷ hs) = spelling.IsQuiet h × AreQuiet hs

  -- After a request that opens a session, all session events are quiet and bring these packets.
  pub record HasBrought (hs : List (SessionEvent F)) (o : O) (packets : P) : Type 0 where
    pub earlier : List (SessionEvent F)
    pub later : List (SessionEvent F)
    pub split : hs ≡ later ++ Came (spelling.request o) ∷ earlier
    pub opened : spelling.opens o ≡ true
    pub quiet : AreQuiet later
    pub brought : spelling.Brings o later packets

  -- a session is open, with packets still to come
  pub record IsOpen (hs : List (SessionEvent F)) (o : O) (packets : P) : Type 0 where
    pub sent : HasBrought hs o packets
    pub more : spelling.count packets < spelling.total o

  -- x is the last packet of a message
  pub record IsWhole (hs : List (SessionEvent F)) (x : SessionEvent F) (message : Message) : Type 0 where
    pub opening : O
    pub packets : P
    pub sent : HasBrought (x ∷ hs) opening packets
    pub all : spelling.count packets ≡ spelling.total opening
    pub packet : spelling.IsPacket x
    pub pgn : message.pgn ≡ spelling.pgn opening
    pub bytes : message.bytes ≡ take (spelling.size opening) (spelling.bytes packets)

  -- An open session has received whole packets, but not all, and has capacity for the message.
  pub record IsReceiving (o : O) (received len capacity : ℕ) : Type 0 where
    pub opened : spelling.opens o ≡ true
    pub fits : spelling.size o ≤ capacity
    pub more : received < spelling.total o
    pub full : len ≡ 7 * received
