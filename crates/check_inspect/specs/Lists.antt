-- All elements of a list that fail a test.
use Rattle.std.specs.Prelude.{Bool, not, List, filter}

-- `first_failing` of vt_verify is the first of these
abbrev pub all_failing : {A : Type 0} → (A → Bool) → List A → List A
all_failing test xs = filter (λ x. not (test x)) xs
