-- Messages carried in packets by a transport protocol. Every list of packets has the latest first.
use Rattle.std.specs.Prelude.{ℕ, Option, Some, None, List, [], ◌∷◌, ◌++◌, length, slice_index}

pub record Message : Type 0 where
  pub pgn : ℕ
  pub bytes : List ℕ

abbrev pub joined : List (List ℕ) → List ℕ
joined [] = []
joined (packet ∷ packets) = joined packets ++ packet

-- the size and first byte of a message
abbrev pub size_and_first_byte : Option Message → Option (ℕ × ℕ)
size_and_first_byte None = None
size_and_first_byte (Some message) = Some (length message.bytes, slice_index message.bytes 0)
