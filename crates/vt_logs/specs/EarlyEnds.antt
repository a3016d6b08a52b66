-- The terminal and the output after a replay that ends early (docs/PROFILE.md, "Output of a replay").
use Rattle.std.specs.Prelude.{◌≡◌, ◌⊎◌, ◌≤◌, ℕ, ◌+◌, List, [], ◌∷◌, ◌++◌, length, Option}
use Rattle.std.specs.List.{AllZip, AllByRecursion}
use Rattle.std.specs.Io.KnownBytes.{Appends, Keeps}
use Rattle.vt_logs.specs.Lines.{lines_of}
use Rattle.vt_logs.specs.Progress.{ReplayPoint, Takes}
use Rattle.vt_logs.specs.Replays.{HasLong, HasLongLine}
use Rattle.vt_logs.specs.LineEffects.{ReplayState, Follows, TakesReading, TakesReadings}
use Rattle.vt_logs.specs.Texts.{LineReading, with_lines_counted, no_counts, counts_text}
use Rattle.vt_recorded.specs.Readings.{IsReadingOf}
use Rattle.vt_server.specs.shown.Screens.{IsScreenOf}
use Rattle.vt_server.specs.Terminals.{State}

-- The first bytes of a text are written: none, some or all.
pub record Begins (old new : Option (List ℕ)) (text : List ℕ) : Type 0 where
  pub front : List ℕ
  pub rest : List ℕ
  pub parts : text ≡ front ++ rest
  pub written : Appends old new front

-- Nothing is written, or the first bytes of a text that has the property Is.
abbrev pub MayBegin : (List ℕ → Type 0) → Option (List ℕ) → Option (List ℕ) → Type 0
MayBegin Is old new = Keeps old new ⊎ ((text : List ℕ) × Is text × Begins old new text)

-- ---- a line

-- These bytes are the first of a text that is printed when the terminal comes to this state.
pub record IsFrontOfPrint (Takes : ReplayState → List ℕ → Type 0) (now : State) (front : List ℕ) : Type 0 where
  pub to : ReplayState
  pub text : List ℕ
  pub rest : List ℕ
  pub takes : Takes to text
  pub now_is : now ≡ to.state
  pub parts : text ≡ front ++ rest

-- The terminal has taken the input of a line, and of the line's text nothing or the first bytes are written.
pub record TakesInPart (Does : State → Type 0) (Takes : ReplayState → List ℕ → Type 0) (now : State) (text : List ℕ) : Type 0 where
  pub done : Does now
  pub printed : (text ≡ []) ⊎ IsFrontOfPrint Takes now text

-- A line ends early: the terminal has not taken its input and nothing is written, or it has, and the line's text is written in part.
abbrev pub BreaksOff : State → (State → Type 0) → (ReplayState → List ℕ → Type 0) → State → List ℕ → Type 0
BreaksOff from Does Takes now text = ((now ≡ from) × (text ≡ [])) ⊎ TakesInPart Does Takes now text

-- ---- lines

-- The terminal has taken the input of the first line of these, line n, and its text is written in part.
pub record TakesNextInPart (from : ReplayState) (n : ℕ) (lines : List (List ℕ)) (now : State) (text : List ℕ) : Type 0 where
  pub line : List ℕ
  pub after : List (List ℕ)
  pub reading : LineReading
  pub next : lines ≡ line ∷ after
  pub read : IsReadingOf line reading
  pub short : length line ≤ 4096
  pub part : TakesInPart (Follows from.state reading) (TakesReading from n reading) now text

-- None of these lines is taken and nothing is written, or the first one is taken and its text is written in part.
abbrev pub LeavesLines : ReplayState → ℕ → List (List ℕ) → State → List ℕ → Type 0
LeavesLines from n lines now text = ((now ≡ from.state) × (text ≡ [])) ⊎ TakesNextInPart from n lines now text

-- The first of these lines are taken and their text is written; at most one more is taken, with its text written in part.
pub record Stops (from : ReplayPoint) (lines : List (List ℕ)) (now : State) (held : Option (List ℕ)) : Type 0 where
  pub front : List (List ℕ)
  pub back : List (List ℕ)
  pub to : ReplayPoint
  pub text : List ℕ
  pub whole : lines ≡ front ++ back
  pub takes : Takes from front to
  pub leaves : LeavesLines to.scene (to.counts.lines + 1) back now text
  pub written : Appends to.held held text

-- The lines before the first one longer than 4,096 bytes are taken, and their text is written.
pub record StopsAtLong (from : ReplayPoint) (lines : List (List ℕ)) (state : State) (held : Option (List ℕ)) : Type 0 where
  pub long : HasLong lines
  pub to : ReplayPoint
  pub takes : Takes from long.before to
  pub state_is : state ≡ to.scene.state
  pub held_is : held ≡ to.held

-- ---- a replay

-- All lines are taken, and the first bytes of the counts are written.
pub record BeginsCounts (last : ReplayState) (readings : List LineReading) (lines : List (List ℕ)) (now : State) (text : List ℕ) : Type 0 where
  pub none_left : lines ≡ []
  pub now_is : now ≡ last.state
  pub rest : List ℕ
  pub parts : counts_text (with_lines_counted no_counts readings) ≡ text ++ rest

-- A replay ended early, after its first screen. The terminal has taken the first lines (none, some or all), and the first screen and the
-- text of these lines are written. Either at most one more line is taken, with its text written in part, or all lines are taken, and the
-- counts are written in part. No line taken is longer than 4,096 bytes.
pub record StopsInLines (start : State) (input : List ℕ) (now : State) (old new : Option (List ℕ)) : Type 0 where
  pub front : List (List ℕ)
  pub back : List (List ℕ)
  pub readings : List LineReading
  pub first : ReplayState
  pub last : ReplayState
  pub printed : List ℕ
  pub text : List ℕ
  pub whole : lines_of input ≡ front ++ back
  pub read : AllZip IsReadingOf front readings
  pub short : AllByRecursion (λ line. length line ≤ 4096) front
  pub starts : first.state ≡ start
  pub shown : IsScreenOf start first.screen
  pub takes : TakesReadings first 0 readings last printed
  pub leaves : LeavesLines last (length front + 1) back now text ⊎ BeginsCounts last readings back now text
  pub written : Appends old new (first.screen ++ printed ++ text)

-- A replay ended early: before the first line, with at most the first bytes of the first screen written, or after its first screen.
abbrev pub HasStopped : State → List ℕ → State → Option (List ℕ) → Option (List ℕ) → Type 0
HasStopped start input now old new = ((now ≡ start) × MayBegin (IsScreenOf start) old new) ⊎ StopsInLines start input now old new

-- A replay ended at the first line longer than 4,096 bytes: the terminal has taken the lines before it, and the first screen and the
-- text of these lines are written.
pub record HasStoppedAtLong (start : State) (input : List ℕ) (now : State) (old new : Option (List ℕ)) : Type 0 where
  pub long : HasLongLine input
  pub readings : List LineReading
  pub read : AllZip IsReadingOf long.before readings
  pub short : AllByRecursion (λ line. length line ≤ 4096) long.before
  pub first : ReplayState
  pub last : ReplayState
  pub printed : List ℕ
  pub starts : first.state ≡ start
  pub shown : IsScreenOf start first.screen
  pub takes : TakesReadings first 0 readings last printed
  pub now_is : now ≡ last.state
  pub written : Appends old new (first.screen ++ printed)
