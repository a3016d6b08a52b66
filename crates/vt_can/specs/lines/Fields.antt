-- Splits of a line into its fields.
use Rattle.std.specs.Prelude.{◌≡◌, ◌<◌, ◌==◌, ℕ, not, List, ◌∷◌, ◌++◌, length, take, slice_index}
use Rattle.std.specs.List.{AllPass}
use Rattle.vt_can.specs.lines.Actions.{IsNumber}
use Rattle.vt_can.specs.lines.Line.{HasNoSpace, IsSuffix}

-- the byte is not in the text
abbrev pub Lacks : ℕ → List ℕ → Type 0
Lacks byte text = AllPass (λ other. not (other == byte)) text

-- the first place of a byte in a text
pub record IsFirstPlace (byte : ℕ) (text : List ℕ) (place : ℕ) : Type 0 where
  pub within : place < length text
  pub stands : slice_index text place ≡ byte
  pub before : Lacks byte (take place text)

-- the split of a text at the first occurrence of a byte
pub record IsSplitAtByte (byte : ℕ) (text front back : List ℕ) : Type 0 where
  pub front_lacks : Lacks byte front
  pub whole : text ≡ front ++ byte ∷ back

-- a word without a space, and a suffix of a frame line
pub record IsThirdWord (text word : List ℕ) : Type 0 where
  pub suffix : List ℕ
  pub no_space : HasNoSpace word
  pub whole : text ≡ word ++ suffix
  pub suffix_is : IsSuffix suffix

-- an object ID, and more text after the first space
pub record IsIdAnd (text : List ℕ) (id : ℕ) (more : List ℕ) : Type 0 where
  pub digits : List ℕ
  pub cut : IsSplitAtByte 32 text digits more
  pub id_is : IsNumber digits id 65534
