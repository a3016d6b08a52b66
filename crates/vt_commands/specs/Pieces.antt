-- A macro's bytes split into macro commands (docs/PROFILE.md, "A macro's bytes").
use Rattle.std.specs.Prelude.{◌≡◌, ◌<◌, ◌↔◌, ℕ, zero, suc, ◌+◌, max, nat_le, List, [], ◌∷◌, ◌++◌, length, take, drop, ◌==◌, if◌then◌else◌, Option, Some, None}
use Rattle.std.specs.Option.{option_map}
use Rattle.std.specs.List.{AllByRecursion, flat_map}
use Rattle.vt_commands.specs.Commands.{byte, word, CHANGE_CHILD_POSITION, CHANGE_STRING_VALUE}

-- the number of bytes of the command at the front: 9 for Change Child Position, 5 and its text but at least 8 for
-- Change String Value, 8 for every other command
abbrev pub command_length : List ℕ → ℕ
command_length bytes =
    if byte bytes 0 == CHANGE_CHILD_POSITION then 9
    else if byte bytes 0 == CHANGE_STRING_VALUE then max 8 (5 + word bytes 3)
    else 8

-- bytes of exactly one macro command
abbrev pub IsPiece : List ℕ → Type 0
IsPiece bytes = length bytes ≡ command_length bytes

-- the macro commands join to the bytes
pub record IsCut (bytes : List ℕ) (pieces : List (List ℕ)) : Type 0 where
  pub each : AllByRecursion IsPiece pieces
  pub joined : bytes ≡ flat_map (λ piece. piece) pieces

-- a macro command at the front, and the remaining bytes
pub record IsSplit (bytes piece rest : List ℕ) : Type 0 where
  pub whole : IsPiece piece
  pub parts : bytes ≡ piece ++ rest

-- the macro commands in bytes, up to a limit; None if they cannot be split
unfoldable pub cut_within : ℕ → List ℕ → Option (List (List ℕ))
cut_within most [] = Some []
cut_within zero (b ∷ bytes) = None
cut_within (suc most) (b ∷ bytes) =
    let n = command_length (b ∷ bytes) in
    if nat_le n (length (b ∷ bytes))
    then option_map (λ pieces. take n (b ∷ bytes) ∷ pieces) (cut_within most (drop n (b ∷ bytes)))
    else None

-- the macro commands in bytes; each has at least one byte, so the limit is the number of bytes
abbrev pub cut : List ℕ → Option (List (List ℕ))
cut bytes = cut_within (length bytes) bytes

-- Bytes split into macro commands in at most one way, and `cut` finds it.
pub record CutIsOne : Type 0 where
  pub one : (bytes : List ℕ) (a b : List (List ℕ)) → IsCut bytes a → IsCut bytes b → a ≡ b
  pub found : (bytes : List ℕ) (pieces : List (List ℕ)) → IsCut bytes pieces ↔ (cut bytes ≡ Some pieces)
  -- `cut` goes on after the first macro command
  pub first : (bytes piece rest : List ℕ) → IsSplit bytes piece rest → cut bytes ≡ option_map (λ pieces. piece ∷ pieces) (cut rest)
  pub none : (bytes : List ℕ) → 0 < length bytes → ((piece rest : List ℕ) → IsSplit bytes piece rest → ⊥) → cut bytes ≡ None
