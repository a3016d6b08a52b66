-- Lines of a trace, and texts that gain them.
use Rattle.std.specs.Prelude.{◌≡◌, ◌==◌, ◌||◌, ℕ, nat_lt, Bool, not, if◌then◌else◌, List, ◌++◌, map}
use Rattle.std.specs.List.{AllPass, flat_map}

abbrev pub HasNoNewline : List ℕ → Type 0
HasNoNewline text = AllPass (λ byte. not (byte == 10)) text

abbrev pub is_control : ℕ → Bool
is_control byte = nat_lt byte 32 || byte == 127

-- a dot for a control character
abbrev pub shown_byte : ℕ → ℕ
shown_byte byte = if is_control byte then 46 else byte

-- a text with a dot for each control character
abbrev pub dotted : List ℕ → List ℕ
dotted text = map shown_byte text

-- lines as one text
abbrev pub joined : List (List ℕ) → List ℕ
joined lines = flat_map (λ line. line) lines

-- A text has gained a part with a property.
pub record Gains (Is : List ℕ → Type 0) (old new : List ℕ) : Type 0 where
  pub part : List ℕ
  pub part_is : Is part
  pub whole : new ≡ old ++ part
