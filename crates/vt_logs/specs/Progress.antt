-- The progress of a replay: the lines and the bytes that it takes.
use Rattle.std.specs.Prelude.{◌≡◌, ◌≢◌, ◌⊎◌, ◌≤◌, Bool, true, ◌==◌, ◌+◌, ℕ, not, List, ◌++◌, length, Option}
use Rattle.std.specs.List.{AllZip, AllByRecursion, AllPass}
use Rattle.std.specs.Io.KnownBytes.{Appends}
use Rattle.vt_logs.specs.declared.counts.Counts.{Counts}
use Rattle.vt_logs.specs.declared.fault.ReplayFault.{ReplayFault}
use Rattle.vt_logs.specs.declared.fault.ReplayFault.TheVariants.{Memory, TooLong, Write}
use Rattle.vt_logs.specs.Lines.{lines_of}
use Rattle.vt_logs.specs.LineEffects.{ReplayState, TakesReading, TakesReadings}
use Rattle.vt_logs.specs.Texts.{LineReading, with_line_counted, with_lines_counted}
use Rattle.vt_recorded.specs.Readings.{IsReadingOf}
use Rattle.vt_server.specs.declared.terminal.Terminal.{Terminal}
use Rattle.vt_server.specs.States.{state_of}

-- No count is above this number.
pub record AtMost (most : ℕ) (c : Counts) : Type 0 where
  pub lines : c.lines ≤ most
  pub frames : c.frames ≤ most
  pub operator : c.operator ≤ most
  pub skipped : c.skipped ≤ most
  pub comments : c.comments ≤ most
  pub faults : c.faults ≤ most

-- The point that a replay has reached: the terminal, the screen printed last, the counts, and the text in the writer.
pub record ReplayPoint : Type 0 where
  pub scene : ReplayState
  pub counts : Counts
  pub held : Option (List ℕ)

abbrev pub scene : Terminal → List ℕ → ReplayState
scene terminal screen = record { state = state_of terminal; screen = screen }

abbrev pub replay_point : Terminal → List ℕ → Counts → Option (List ℕ) → ReplayPoint
replay_point terminal screen counts held = record { scene = scene terminal screen; counts = counts; held = held }

-- A text that has the property Is is written.
pub record Writes (Is : List ℕ → Type 0) (old new : Option (List ℕ)) : Type 0 where
  pub text : List ℕ
  pub text_is : Is text
  pub written : Appends old new text

-- One line is taken, as it was read.
pub record TakesOne (from : ReplayPoint) (reading : LineReading) (to : ReplayPoint) : Type 0 where
  pub printed : List ℕ
  pub takes : TakesReading from.scene (from.counts.lines + 1) reading to.scene printed
  pub counts : to.counts ≡ with_line_counted from.counts reading
  pub text : Appends from.held to.held printed

-- Lines are taken, one after the other.
pub record Takes (from : ReplayPoint) (lines : List (List ℕ)) (to : ReplayPoint) : Type 0 where
  pub readings : List LineReading
  pub read : AllZip IsReadingOf lines readings
  pub short : AllByRecursion (λ line. length line ≤ 4096) lines
  pub printed : List ℕ
  pub takes : TakesReadings from.scene from.counts.lines readings to.scene printed
  pub counts : to.counts ≡ with_lines_counted from.counts readings
  pub text : Appends from.held to.held printed

-- The faults at the input of a line: Memory, and Write where the sink is not steady.
abbrev pub IsStepFault : (steady : Bool) → ReplayFault → Type 0
IsStepFault steady fault = (fault ≡ Memory) ⊎ ((fault ≡ Write) × (steady ≢ true))

-- The faults at a line: TooLong, and those at its input.
abbrev pub IsLineFault : (steady : Bool) → ReplayFault → Type 0
IsLineFault steady fault = (fault ≡ TooLong) ⊎ IsStepFault steady fault

abbrev pub HasNoNewline : List ℕ → Type 0
HasNoNewline text = AllPass (λ byte. not (byte == 10)) text

-- Bytes are taken after the pending ones: the lines that end in them, at most one for each byte, and the rest is pending.
pub record TakesBytes (from : ReplayPoint) (before bytes : List ℕ) (to : ReplayPoint) (pending : List ℕ) : Type 0 where
  pub lines : List (List ℕ)
  pub takes : Takes from lines to
  pub few : length lines ≤ length bytes
  pub split : (rest : List ℕ) → lines_of (before ++ bytes ++ rest) ≡ lines ++ lines_of (pending ++ rest)
