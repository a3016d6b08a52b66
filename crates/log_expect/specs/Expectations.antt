-- Expectations in a log: what a line has to print (docs/PROFILE.md, "Expectations").
use Rattle.std.specs.Prelude.{ℕ, Bool, true, false, ◌==◌, nat_eq, if◌then◌else◌, List, [], ◌∷◌, ◌++◌, codes, drop}
use Rattle.std.specs.List.{starts_with}
use Rattle.log_expect.specs.Patterns.{BytePattern, Only, pattern_of}

-- a line that is an expectation of the line before it: a comment that begins with `#<`
abbrev pub is_expectation : List ℕ → Bool
is_expectation line = starts_with nat_eq line (codes "#<")

-- a text without one space at its front
abbrev pub without_space : List ℕ → List ℕ
without_space [] = []
without_space (byte ∷ rest) = if byte == 32 then rest else byte ∷ rest

-- the line that an expectation stands for. Behind `#<?` each `?` is a wildcard
abbrev pub pattern_in : List ℕ → List BytePattern
pattern_in line =
    if starts_with nat_eq line (codes "#<?") then pattern_of true (without_space (drop 3 line)) else pattern_of false (without_space (drop 2 line))

-- the same with its newline
abbrev pub expected_line : List ℕ → List BytePattern
expected_line line = pattern_in line ++ Only 10 ∷ []

-- What is expected of a line, by the lines after it: those of the expectations right behind it.
abbrev pub expected_by : List (List ℕ) → List BytePattern
expected_by [] = []
expected_by (line ∷ lines) = if is_expectation line then expected_line line ++ expected_by lines else []
