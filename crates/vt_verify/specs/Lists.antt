-- The first element of a list that fails a test.
use Rattle.std.specs.Prelude.{Bool, if◌then◌else◌, List, [], ◌∷◌, Option, Some, None}

abbrev pub first_failing : {A : Type 0} → (A → Bool) → List A → Option A
first_failing test [] = None
first_failing test (x ∷ xs) = if test x then first_failing test xs else Some x
