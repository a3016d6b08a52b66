-- A text that is longer than the stored one differs from it.
use Rattle.std.proofs.Common.{◌≡◌, ◌<◌, ℕ, zero, suc, Bool, false, List, [], ◌∷◌, drop, length, refl, sym, ◌∙◌, arith}
use Rattle.vt_machine.specs.OperatorEntries.{is_filled}

more_than_none : (text : List ℕ) (i : ℕ) → i < length text → is_filled (drop i text) [] ≡ false
more_than_none [] i lt = absurd (omega (arith, lt))
more_than_none (x ∷ text) zero lt = refl
more_than_none (x ∷ text) (suc i) lt = more_than_none text i (omega (arith, lt))

pub nothing_left : (text rest : List ℕ) (i : ℕ) (b : Bool) → i < length text → length rest ≡ 0 → b ≡ is_filled (drop i text) rest → false ≡ b
nothing_left text [] i b lt none is = sym (is ∙ more_than_none text i lt)
nothing_left text (x ∷ rest) i b lt none is = absurd (omega (arith, none))
