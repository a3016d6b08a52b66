-- One line that is taken: what it prints, and what it leaves.
use Rattle.std.proofs.Common.{◌≡◌, ◌∙◌, ℕ, ◌+◌, ◌≤◌, ◌^◌, List, [], ◌∷◌, ◌++◌, length, Ok, Err, sym, ap, subst, refl, arith}
use Rattle.std.proofs.lemmas.List.{append-nil}
use Rattle.std.specs.List.{AllZip}
use Rattle.std.specs.Io.KnownBytes.{Appends}
use Rattle.vt_can.specs.lines.Readings.{FrameAt, OperatorAction, SkippedFrame, CommentLine}
use Rattle.vt_logs.specs.declared.counts.Counts.{Counts}
use Rattle.vt_logs.specs.LineEffects.{ReplayState, TakesReading, TakesReadings}
use Rattle.vt_logs.specs.Progress.{AtMost, ReplayPoint, Takes}
use Rattle.vt_logs.specs.Texts.{LineReading, no_counts, with_line_counted, with_lines_counted}
use Rattle.vt_recorded.specs.Readings.{IsReadingOf}
use Rattle.vt_server.specs.shown.Screens.{IsScreenOf}

-- A line is taken and prints a text.
pub record TakesLine (from : ReplayPoint) (line : List ℕ) (to : ReplayPoint) : Type 0 where
  pub reading : LineReading
  pub reads : IsReadingOf line reading
  pub short : length line ≤ 4096
  pub text : List ℕ
  pub takes : TakesReading from.scene (from.counts.lines + 1) reading to.scene text
  pub counts : to.counts ≡ with_line_counted from.counts reading
  pub held : Appends from.held to.held text

one-taken : (from to : ReplayPoint) (line : List ℕ) (readings : List LineReading) (printed : List ℕ) → AllZip IsReadingOf (line ∷ []) readings → length line ≤ 4096
    → TakesReadings from.scene from.counts.lines readings to.scene printed → to.counts ≡ with_lines_counted from.counts readings → Appends from.held to.held printed → TakesLine from line to
one-taken from to line [] printed read short takes counts held = absurd read
one-taken from to line (reading ∷ second ∷ readings) printed read short takes counts held = absurd read.1
one-taken from to line (reading ∷ []) printed read short takes counts held =
    let n = from.counts.lines + 1 in
    let same : printed ≡ takes.first = takes.whole ∙ ap (λ (rest : List ℕ). takes.first ++ rest) takes.next.1 ∙ append-nil takes.first in
    record {
      reading = reading;
      reads = read.0;
      short = short;
      text = printed;
      takes = subst (λ (text : List ℕ). TakesReading from.scene n reading to.scene text) (sym same)
          (subst (λ (scene : ReplayState). TakesReading from.scene n reading scene takes.first) (sym takes.next.0) takes.takes);
      counts = counts;
      held = held;
    }

pub line-taken : (from to : ReplayPoint) (line : List ℕ) → Takes from (line ∷ []) to → TakesLine from line to
line-taken from to line taken = one-taken from to line taken.readings taken.printed taken.read taken.short.0 taken.takes taken.counts taken.text

pub still-drawn : (from to : ReplayState) (n : ℕ) (reading : LineReading) (text : List ℕ) → TakesReading from n reading to text → IsScreenOf from.state from.screen → IsScreenOf to.state to.screen
still-drawn from to n (Ok (FrameAt time frame)) text taken drawn = taken.takes.screen
still-drawn from to n (Ok (OperatorAction action)) text taken drawn = taken.takes.screen
still-drawn from to n (Ok (SkippedFrame why)) text taken drawn = subst (λ (scene : ReplayState). IsScreenOf scene.state scene.screen) (sym taken.0) drawn
still-drawn from to n (Ok CommentLine) text taken drawn = subst (λ (scene : ReplayState). IsScreenOf scene.state scene.screen) (sym taken.0) drawn
still-drawn from to n (Err fault) text taken drawn = subst (λ (scene : ReplayState). IsScreenOf scene.state scene.screen) (sym taken.0) drawn

pub lines-counted : (counts : Counts) (reading : LineReading) → (with_line_counted counts reading).lines ≡ counts.lines + 1
lines-counted counts (Ok (FrameAt time frame)) = refl
lines-counted counts (Ok (OperatorAction action)) = refl
lines-counted counts (Ok (SkippedFrame why)) = refl
lines-counted counts (Ok CommentLine) = refl
lines-counted counts (Err fault) = refl

pub one-more : (most : ℕ) (counts : Counts) (reading : LineReading) → AtMost most counts → AtMost (most + 1) (with_line_counted counts reading)
one-more most counts (Ok (FrameAt time frame)) few = record { lines = omega (arith, few.lines); frames = omega (arith, few.frames); operator = omega (arith, few.operator); skipped = omega (arith, few.skipped); comments = omega (arith, few.comments); faults = omega (arith, few.faults) }
one-more most counts (Ok (OperatorAction action)) few = record { lines = omega (arith, few.lines); frames = omega (arith, few.frames); operator = omega (arith, few.operator); skipped = omega (arith, few.skipped); comments = omega (arith, few.comments); faults = omega (arith, few.faults) }
one-more most counts (Ok (SkippedFrame why)) few = record { lines = omega (arith, few.lines); frames = omega (arith, few.frames); operator = omega (arith, few.operator); skipped = omega (arith, few.skipped); comments = omega (arith, few.comments); faults = omega (arith, few.faults) }
one-more most counts (Ok CommentLine) few = record { lines = omega (arith, few.lines); frames = omega (arith, few.frames); operator = omega (arith, few.operator); skipped = omega (arith, few.skipped); comments = omega (arith, few.comments); faults = omega (arith, few.faults) }
one-more most counts (Err fault) few = record { lines = omega (arith, few.lines); frames = omega (arith, few.frames); operator = omega (arith, few.operator); skipped = omega (arith, few.skipped); comments = omega (arith, few.comments); faults = omega (arith, few.faults) }

pub AtMost-more : (less most : ℕ) (counts : Counts) → less ≤ most → AtMost less counts → AtMost most counts
AtMost-more less most counts le few = record { lines = omega (arith, le, few.lines); frames = omega (arith, le, few.frames); operator = omega (arith, le, few.operator); skipped = omega (arith, le, few.skipped); comments = omega (arith, le, few.comments); faults = omega (arith, le, few.faults) }

-- The screen that was printed last is the terminal's.
pub drawn-after : (from to : ReplayPoint) (line : List ℕ) → Takes from (line ∷ []) to → IsScreenOf from.scene.state from.scene.screen → IsScreenOf to.scene.state to.scene.screen
drawn-after from to line taken drawn =
    let one = line-taken from to line taken in still-drawn from.scene to.scene (from.counts.lines + 1) one.reading one.text one.takes drawn

-- Counts of lines alone are at most a number.
pub few-lines : (counts : Counts) (lines : ℕ) → counts ≡ no_counts → lines ≤ 2 ^ 62 → AtMost (2 ^ 62) (record counts { lines = lines })
few-lines counts lines none few =
    subst (λ (k : Counts). AtMost (2 ^ 62) (record k { lines = lines })) (sym none)
    (record { lines = few; frames = omega arith; operator = omega arith; skipped = omega arith; comments = omega arith; faults = omega arith })
