-- What no difference means.
use Rattle.std.specs.Prelude.{◌≡◌, ◌↔◌, ℕ, false, List, []}
use Rattle.log_expect.specs.Differences.{AreDifferences, DiffersAt, IsAsExpected}
use Rattle.log_expect.specs.Patterns.{Fits, pattern_of}
use Rattle.vt_server.specs.Terminals.{State}

-- A log without differences prints what it expects.
abbrev pub NoDifferenceIsAsExpected : Type 0
NoDifferenceIsAsExpected =
    (start : State) (input : List ℕ) (differences : List DiffersAt) (now : State) → AreDifferences start input differences now → differences ≡ [] → IsAsExpected start input

-- Without wildcards a text fits what is expected if and only if it is the same.
abbrev pub WithoutWildcardsIsTheSame : Type 0
WithoutWildcardsIsTheSame = (expected printed : List ℕ) → Fits (pattern_of false expected) printed ↔ (printed ≡ expected)
