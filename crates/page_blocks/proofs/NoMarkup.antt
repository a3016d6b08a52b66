-- Escaped texts begin no tag.
use Rattle.std.proofs.Common.{◌≡◌, ℕ, Bool, true, false, cond, ◌||◌, List, [], ◌∷◌, ◌++◌, refl}
use Rattle.std.specs.Prelude.{codes}
use Rattle.std.specs.List.{flat_map, list_any}
use Rattle.page_blocks.specs.Escapes.{begins_tag, escaped}
use Rattle.page_blocks.specs.Laws.{DataHasNoMarkup}

neither : (a b : Bool) → a ≡ false → b ≡ false → (a || b) ≡ false
neither false false first second = refl
neither true b first second = absurd cc
neither false true first second = absurd cc

behind : (b : Bool) (byte : ℕ) (rest : List ℕ) → begins_tag byte ≡ b → list_any begins_tag rest ≡ false
    → list_any begins_tag (cond b (92 ∷ codes "u003c") (byte ∷ []) ++ rest) ≡ false
behind true byte rest is none = none
behind false byte rest is none = neither (begins_tag byte) (list_any begins_tag rest) is none

pub no_markup : DataHasNoMarkup
no_markup [] = refl
no_markup (byte ∷ rest) = behind (begins_tag byte) byte (flat_map escaped rest) refl (no_markup rest)
