-- The lines of a log that print another text than is expected.
use Rattle.std.specs.Prelude.{◌≡◌, ℕ, ◌+◌, false, if◌then◌else◌, List, [], ◌∷◌, ◌++◌, map}
use Rattle.log_expect.specs.declared.difference.LineDifference.{LineDifference}
use Rattle.log_expect.specs.Expectations.{is_expectation, expected_by}
use Rattle.log_expect.specs.LineTexts.{Prints}
use Rattle.log_expect.specs.Patterns.{BytePattern, Fits, fits, shown_byte}
use Rattle.vt_logs.specs.Lines.{lines_of}
use Rattle.vt_server.specs.Terminals.{State}

-- a line by its number, 0 for the first screen, with what is expected of it, as people see it, and the text that it printed
pub record DiffersAt : Type 0 where
  pub line : ℕ
  pub expected : List ℕ
  pub printed : List ℕ

abbrev pub difference_seen : LineDifference → DiffersAt
difference_seen difference = record { line = difference.line; expected = difference.expected.items; printed = difference.printed.items }

-- the difference at a line, if there is one
abbrev pub difference_at : ℕ → List BytePattern → (printed : List ℕ) → List DiffersAt
difference_at n expected printed =
    if fits expected printed then [] else record { line = n; expected = map shown_byte expected; printed = printed } ∷ []

-- The differences of lines, after n others, with their texts. An expectation is no line that prints.
abbrev pub differences_after : ℕ → List (List ℕ) → List (List ℕ) → List DiffersAt
differences_after n [] texts = []
differences_after n (line ∷ lines) [] = []
differences_after n (line ∷ lines) (text ∷ texts) =
    (if is_expectation line then [] else difference_at (n + 1) (expected_by lines) text) ++ differences_after (n + 1) lines texts

-- the differences of a log: of the first screen, by the expectations before any other line, and then of each line
abbrev pub differences_of : List (List ℕ) → (screen : List ℕ) → (texts : List (List ℕ)) → List DiffersAt
differences_of lines screen texts = difference_at 0 (expected_by lines) screen ++ differences_after 0 lines texts

-- the differences of a log that a terminal replays
pub record AreDifferences (start : State) (input : List ℕ) (differences : List DiffersAt) (now : State) : Type 0 where
  pub screen : List ℕ
  pub texts : List (List ℕ)
  pub prints : Prints start input screen texts now
  pub are : differences ≡ differences_of (lines_of input) screen texts

-- ---- as expected

-- each line that is no expectation prints what is expected of it
abbrev pub AllAsExpected : List (List ℕ) → List (List ℕ) → Type 0
AllAsExpected [] texts = Unit {0}
AllAsExpected (line ∷ lines) [] = Unit {0}
AllAsExpected (line ∷ lines) (text ∷ texts) =
    (is_expectation line ≡ false → Fits (expected_by lines) text) × AllAsExpected lines texts

-- A log prints what it expects: the first screen, and the text of each line.
pub record IsAsExpected (start : State) (input : List ℕ) : Type 0 where
  pub screen : List ℕ
  pub texts : List (List ℕ)
  pub now : State
  pub prints : Prints start input screen texts now
  pub first : Fits (expected_by (lines_of input)) screen
  pub each : AllAsExpected (lines_of input) texts
