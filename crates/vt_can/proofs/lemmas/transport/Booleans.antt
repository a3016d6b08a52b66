-- The members of a true conjunction.
use Rattle.std.proofs.Common.{◌≡◌, Bool, true, false, ◌&&◌}

pub record Both (a b : Bool) : Type 0 where
  pub first : a ≡ true
  pub second : b ≡ true

pub both_of : (a b : Bool) → (a && b) ≡ true → Both a b
both_of true true e = record { first = e; second = e }
both_of true false e = absurd cc
both_of false b e = absurd cc

pub record All (a b c : Bool) : Type 0 where
  pub first : a ≡ true
  pub second : b ≡ true
  pub third : c ≡ true

pub all_of : (a b c : Bool) → (a && b && c) ≡ true → All a b c
all_of true true true e = record { first = e; second = e; third = e }
all_of true true false e = absurd cc
all_of true false c e = absurd cc
all_of false b c e = absurd cc
