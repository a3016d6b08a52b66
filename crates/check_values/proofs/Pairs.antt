-- Pairs of a count and a byte.
use Rattle.std.proofs.Common.{◌≡◌, ℕ, ◌<◌, List, [], ◌∷◌, length, refl, arith}
use Rattle.check_values.specs.Pictures.{unpacked}

-- less than a pair stands for nothing
pub unpacked_short : (xs : List ℕ) → length xs < 2 → unpacked xs ≡ 0
unpacked_short [] lt = refl
unpacked_short (count ∷ []) lt = refl
unpacked_short (count ∷ byte ∷ xs) lt = absurd (omega (arith, lt))
