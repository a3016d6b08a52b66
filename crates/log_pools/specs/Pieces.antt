-- The pieces of object pools in messages (ISO 11783-6; docs/PROFILE.md, "Uploads in a log"). Every list of messages has the latest
-- first.
use Rattle.std.specs.Prelude.{ℕ, ◌==◌, ◌||◌, Bool, false, if◌then◌else◌, Option, None, Some, unwrap_or, List, [], ◌∷◌, ◌++◌, drop}
use Rattle.vt_can.specs.Assigned.{ECU_TO_VT, TRANSFER, END_OF_POOL}
use Rattle.vt_can.specs.frames.Identifier.{addressed, raw_of}
use Rattle.vt_commands.specs.Commands.{DELETE_POOL}

-- the identifier of the messages of an implement to a terminal, with priority 7
abbrev pub id_of : ℕ → ℕ → ℕ
id_of source destination = raw_of (addressed 7 ECU_TO_VT destination source)

-- a message: its identifier and its bytes
pub record Told : Type 0 where
  pub id : ℕ
  pub bytes : List ℕ

-- whether a message begins with a function
abbrev pub has_function : ℕ → List ℕ → Bool
has_function function [] = false
has_function function (first ∷ rest) = first == function

-- the pool that one message after the others leaves unended
abbrev pub with_message : List ℕ → Option (List ℕ) → Option (List ℕ)
with_message bytes pool =
    if has_function TRANSFER bytes then Some (unwrap_or pool [] ++ drop 1 bytes)
    else if has_function END_OF_POOL bytes || has_function DELETE_POOL bytes then None
    else pool

-- The bytes of the pool that is being uploaded by the messages of an identifier: the pieces since the last end or deletion of a pool. None if
-- there is no piece since then.
abbrev pub pieces : ℕ → List Told → Option (List ℕ)
pieces id [] = None
pieces id (message ∷ messages) = if message.id == id then with_message message.bytes (pieces id messages) else pieces id messages
