-- When a terminal that replays a log receives a frame of the recorded terminal (docs/PROFILE.md, "The recorded terminal in a replay").
use Rattle.std.specs.Prelude.{ℕ, ◌<◌, ◌≤◌, Some, Result, Ok, Err}
use Rattle.vt_can.specs.declared.lines.line.LineFault.{LineFault}
use Rattle.vt_can.specs.lines.Readings.{ParsedLine, FrameAt, OperatorAction, SkippedFrame, CommentLine}
use Rattle.vt_can.specs.transport.FirstTimes.{IsFirstTime}
use Rattle.vt_server.specs.Terminals.{State}
use Rattle.vt_server.specs.frame.Deadlines.{IsDue}
use Rattle.log_order.specs.declared.turn.Turn.{Turn}
use Rattle.log_order.specs.declared.turn.Turn.TheVariants.{Now, Own, Never, Later, Late}

-- No tick is due yet, but one is first due by this time: a session or a set has become overdue.
pub record IsOverdueAt (s : State) (time : ℕ) : Type 0 where
  pub first : ℕ
  pub is_first : IsFirstTime (IsDue s) (Some first)
  pub not_yet : 0 < first
  pub by_then : first ≤ time

-- A frame of the recorded terminal counts only by its time. What is no frame has no turn of its own.
abbrev pub IsOwnDue : State → Result ParsedLine LineFault → Type 0
IsOwnDue s (Ok (FrameAt time frame)) = IsOverdueAt s time
IsOwnDue s (Ok (OperatorAction action)) = ⊥
IsOwnDue s (Ok (SkippedFrame why)) = ⊥
IsOwnDue s (Ok CommentLine) = ⊥
IsOwnDue s (Err fault) = ⊥

-- A terminal receives a line as it was read, at this turn.
abbrev pub IsReceived : Turn → State → Result ParsedLine LineFault → Type 0
IsReceived Now s reading = Unit {0}
IsReceived Own s reading = IsOwnDue s reading
IsReceived Never s reading = ⊥
IsReceived Later s reading = ⊥
IsReceived Late s reading = Unit {0}
