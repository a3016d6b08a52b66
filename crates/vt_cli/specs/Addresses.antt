-- Addresses of nodes as the words of a command line give them.
use Rattle.std.specs.Prelude.{◌≡◌, ◌≤◌, ℕ, List, [], ◌∷◌, Ok}
use Rattle.hex.specs.Hex.{decode_of}

-- two hex digits write the number n, up to FD
abbrev pub IsAddress : List ℕ → ℕ → Type 0
IsAddress text n = (decode_of text ≡ Ok (n ∷ [])) × (n ≤ 253)
