-- What the messages of a terminal are about (docs/PROFILE.md, "Answers").
use Rattle.std.specs.Prelude.{ℕ, ◌+◌, ◌==◌, ◌&&◌, Bool, true, false, if◌then◌else◌, Option, Some, None, List, [], ◌∷◌, take, drop, length, nat_le}
use Rattle.byteorder.specs.Endian.{little_number}
use Rattle.log_answers.specs.declared.topic.Topic.{Topic}
use Rattle.vt_can.specs.Assigned.{VT_TO_ECU}
use Rattle.vt_can.specs.declared.frames.frame.Frame.{Frame}
use Rattle.vt_can.specs.frames.Identifier.{parts_of, pgn_of, destination_of}
use Rattle.vt_commands.specs.Commands.{Columns, columns_at}

-- the bytes before the object in the replies to a command, if they name one
abbrev pub object_place : Option Columns → Option ℕ
object_place None = None
object_place (Some columns) = columns.object_at

-- the two bytes of the object after so many others, if they are there
abbrev pub object_after : List ℕ → Option ℕ → Option ℕ
object_after bytes None = None
object_after bytes (Some place) = if nat_le (place + 2) (length bytes) then Some (little_number 2 (take 2 (drop place bytes))) else None

abbrev pub object_in : ℕ → List ℕ → Option ℕ
object_in function bytes = object_after bytes (object_place (columns_at function))

-- the topic of a message to an address
abbrev pub message_topic : Option ℕ → List ℕ → Option Topic
message_topic None bytes = None
message_topic (Some destination) [] = None
message_topic (Some destination) (function ∷ rest) =
    Some (record { destination = destination; function = function; object = object_in function (function ∷ rest) })

-- the topic of a frame: only messages of terminals, parameter group E600, have one
abbrev pub topic_of : Frame → Option Topic
topic_of frame = if pgn_of (parts_of frame.id) == VT_TO_ECU then message_topic (destination_of (parts_of frame.id)) frame.bytes.items else None

-- ---- the same topic

abbrev pub same_object : Option ℕ → Option ℕ → Bool
same_object None None = true
same_object (Some a) (Some b) = a == b
same_object None (Some b) = false
same_object (Some a) None = false

abbrev pub same_topic : Topic → Topic → Bool
same_topic a b = a.destination == b.destination && a.function == b.function && same_object a.object b.object
