-- The text of each line of a replay.
use Rattle.std.specs.Prelude.{◌≡◌, ◌≤◌, ℕ, ◌+◌, List, [], ◌∷◌, length}
use Rattle.std.specs.List.{AllZip, AllByRecursion}
use Rattle.vt_logs.specs.Lines.{lines_of}
use Rattle.vt_logs.specs.LineEffects.{ReplayState, TakesReading}
use Rattle.vt_logs.specs.Texts.{LineReading}
use Rattle.vt_recorded.specs.Readings.{IsReadingOf}
use Rattle.vt_server.specs.shown.Screens.{IsScreenOf}
use Rattle.vt_server.specs.Terminals.{State}

-- A line is taken after n others and prints a text, and the lines after it follow.
pub record TakesNext (from : ReplayState) (n : ℕ) (reading : LineReading) (text : List ℕ) (Then : ReplayState → Type 0) : Type 0 where
  pub middle : ReplayState
  pub takes : TakesReading from (n + 1) reading middle text
  pub next : Then middle

-- Lines are taken after n others, each with its text.
abbrev pub TakesEach : ReplayState → ℕ → List LineReading → List (List ℕ) → ReplayState → Type 0
TakesEach from n [] [] to = to ≡ from
TakesEach from n [] (text ∷ texts) to = ⊥
TakesEach from n (reading ∷ readings) [] to = ⊥
TakesEach from n (reading ∷ readings) (text ∷ texts) to = TakesNext from n reading text (λ middle. TakesEach middle (n + 1) readings texts to)

-- A terminal prints its first screen, and for each line of a log a text. No line is longer than 4,096 bytes.
pub record Prints (start : State) (input : List ℕ) (screen : List ℕ) (texts : List (List ℕ)) (now : State) : Type 0 where
  pub readings : List LineReading
  pub read : AllZip IsReadingOf (lines_of input) readings
  pub short : AllByRecursion (λ line. length line ≤ 4096) (lines_of input)
  pub shown : IsScreenOf start screen
  pub last : ReplayState
  pub takes : TakesEach (record { state = start; screen = screen }) 0 readings texts last
  pub now_is : now ≡ last.state
