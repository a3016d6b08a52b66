-- Properties of texts.
use Rattle.std.specs.Prelude.{◌≡◌, ◌<◌, ℕ, false, ◌⊎◌, List, [], ◌∷◌, ◌++◌, codes}
use Rattle.std.specs.Fmt.{decimal}
use Rattle.std.specs.Str.Parse.{IsNumeral}
use Rattle.draw_svg.specs.Characters.{is_control, is_markup, escaped}

-- the character itself, which is printable ASCII and none of `"`, `&`, `<` and `>`
pub record IsItself (c : ℕ) (text : List ℕ) : Type 0 where
  pub is : text ≡ c ∷ []
  pub ascii : c < 128
  pub plain : is_markup c ≡ false
  pub shown : is_control c ≡ false

-- a reference in decimal to a character of Latin 1 that is no control character: to itself, unless it is one
pub record IsReference (c : ℕ) (text : List ℕ) : Type 0 where
  pub n : ℕ
  pub latin : n < 256
  pub is : text ≡ codes "&#" ++ (decimal n ++ codes ";")
  pub numeral : IsNumeral 10 (decimal n)
  pub shown : is_control n ≡ false
  pub own : is_control c ≡ false → n ≡ c

-- A character of Latin 1 is itself or a reference.
abbrev pub CharactersAreNoMarkup : Type 0
CharactersAreNoMarkup = (c : ℕ) → c < 256 → IsItself c (escaped c) ⊎ IsReference c (escaped c)
