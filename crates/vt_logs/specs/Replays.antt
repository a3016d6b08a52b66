-- The whole replay of a log, and the faults that may end it.
use Rattle.std.specs.Prelude.{◌≡◌, ◌≢◌, ◌≤◌, ◌<◌, ℕ, Bool, true, List, ◌∷◌, ◌++◌, length, Option, IfSome}
use Rattle.std.specs.List.{AllZip, AllByRecursion}
use Rattle.vt_logs.specs.declared.counts.Counts.{Counts}
use Rattle.vt_logs.specs.declared.fault.ReplayFault.{ReplayFault}
use Rattle.vt_logs.specs.declared.fault.ReplayFault.TheVariants.{Memory, Read, TooLong, Write}
use Rattle.vt_logs.specs.Lines.{lines_of}
use Rattle.vt_logs.specs.LineEffects.{ReplayState, TakesReadings}
use Rattle.vt_logs.specs.Texts.{LineReading, with_lines_counted, no_counts, counts_text}
use Rattle.vt_recorded.specs.Readings.{IsReadingOf}
use Rattle.vt_server.specs.shown.Screens.{IsScreenOf}
use Rattle.vt_server.specs.Terminals.{State}

-- The replay of a log by a terminal, with the terminal after it. Its text is the first screen, the text of each line, and the counts.
-- No line is longer than 4,096 bytes.
pub record IsReplay (start : State) (input : List ℕ) (text : List ℕ) (counts : Counts) (now : State) : Type 0 where
  pub readings : List LineReading
  pub read : AllZip IsReadingOf (lines_of input) readings
  pub short : AllByRecursion (λ line. length line ≤ 4096) (lines_of input)
  pub first : ReplayState
  pub last : ReplayState
  pub printed : List ℕ
  pub starts : first.state ≡ start
  pub shown : IsScreenOf start first.screen
  pub takes : TakesReadings first 0 readings last printed
  pub text_is : text ≡ first.screen ++ printed ++ counts_text counts
  pub counts_are : counts ≡ with_lines_counted no_counts readings
  pub now_is : now ≡ last.state

-- One of these lines is longer than 4,096 bytes.
pub record HasLong (lines : List (List ℕ)) : Type 0 where
  pub before : List (List ℕ)
  pub line : List ℕ
  pub after : List (List ℕ)
  pub parts : lines ≡ before ++ line ∷ after
  pub long : 4096 < length line

abbrev pub HasLongLine : List ℕ → Type 0
HasLongLine input = HasLong (lines_of input)

-- The faults that may end the replay of a log: Read from a steady source only where the log has 1,000,000,000 bytes or more, Write only
-- to a sink that is not steady, TooLong only where the log has such a line, and Memory.
abbrev pub MayEndWith : (source sink : Bool) → (log : Option (List ℕ)) → ReplayFault → Type 0
MayEndWith source sink log Read = source ≡ true → IfSome log (λ input. 1000000000 ≤ length input)
MayEndWith source sink log Write = sink ≢ true
MayEndWith source sink log Memory = Unit {0}
MayEndWith source sink log TooLong = IfSome log HasLongLine
