-- What a log keeps when its expectations are replaced.
use Rattle.std.specs.Prelude.{◌≡◌, ℕ, if◌then◌else◌, List, [], ◌∷◌, ◌++◌}
use Rattle.log_expect.specs.Expectations.{is_expectation}
use Rattle.vt_logs.specs.Lines.{lines_of}

-- the lines that are no expectations
abbrev pub without_expectations : List (List ℕ) → List (List ℕ)
without_expectations [] = []
without_expectations (line ∷ lines) = if is_expectation line then without_expectations lines else line ∷ without_expectations lines

-- A text of whole lines. Without its expectations it has these lines, whatever follows it.
abbrev pub KeepsLines : (text : List ℕ) → (kept : List (List ℕ)) → Type 0
KeepsLines text kept = (more : List ℕ) → without_expectations (lines_of (text ++ more)) ≡ kept ++ without_expectations (lines_of more)
