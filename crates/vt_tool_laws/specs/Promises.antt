-- The headline of a replay: whatever log is replayed, the terminal keeps its promise over all the inputs of the log
-- (docs/PROOFS.md, "The headline").
use Rattle.std.proofs.Common.{inl, inr}
use Rattle.std.specs.Prelude.{◌≡◌, ◌⊎◌, List, [], ◌∷◌, ◌++◌, ◌+◌, length, Option, Some, None, Ok, Err, ℕ}
use Rattle.vt_can.specs.lines.Readings.{FrameAt, OperatorAction, SkippedFrame, CommentLine}
use Rattle.vt_laws.specs.Headline.{Pools, ArePoolsInForce, EventsKeep}
use Rattle.vt_logs.specs.declared.counts.Counts.{Counts}
use Rattle.vt_logs.specs.EarlyEnds.{BeginsCounts, HasStopped, LeavesLines}
use Rattle.vt_logs.specs.Replays.{IsReplay}
use Rattle.vt_logs.specs.LineEffects.{IsInputOfLine, ReplayState}
use Rattle.vt_logs.specs.Texts.{LineReading}
use Rattle.vt_program.specs.declared.options.Options.{Options}
use Rattle.vt_node.specs.AddressFunctions.{with_at}
use Rattle.vt_program.specs.declared.options.Preload.{Preload}
use Rattle.vt_program.specs.Runs.{FileContents, IsPreloaded, IsStart, new_state}
use Rattle.vt_server.specs.Judgements.{AreJudgedRight}
use Rattle.vt_server.specs.Steps.{JudgedInput, after_all}
use Rattle.vt_server.specs.Terminals.{State}

-- The inputs of lines, in their order: one for each frame and one for each action of the operator.
abbrev pub AreInputsOfLines : List LineReading → List JudgedInput → Type 0
AreInputsOfLines [] [] = Unit {0}
AreInputsOfLines [] (e ∷ events) = ⊥
AreInputsOfLines (Err fault ∷ readings) events = AreInputsOfLines readings events
AreInputsOfLines (Ok (SkippedFrame why) ∷ readings) events = AreInputsOfLines readings events
AreInputsOfLines (Ok CommentLine ∷ readings) events = AreInputsOfLines readings events
AreInputsOfLines (Ok (FrameAt time frame) ∷ readings) [] = ⊥
AreInputsOfLines (Ok (FrameAt time frame) ∷ readings) (e ∷ events) = IsInputOfLine (FrameAt time frame) e × AreInputsOfLines readings events
AreInputsOfLines (Ok (OperatorAction action) ∷ readings) [] = ⊥
AreInputsOfLines (Ok (OperatorAction action) ∷ readings) (e ∷ events) = IsInputOfLine (OperatorAction action) e × AreInputsOfLines readings events

-- A terminal takes the inputs of lines from a state on, and keeps its promise.
pub record LinesKeep (pools : Pools) (start : State) (readings : List LineReading) (now : State) : Type 0 where
  pub events : List JudgedInput
  pub of_lines : AreInputsOfLines readings events
  pub judged : AreJudgedRight start events
  pub now_is : now ≡ after_all start events
  pub keeps : EventsKeep pools start events

-- The pools that options give: the pool of the file, at its owner.
abbrev pub given_pools : (files : FileContents) (preload : Option Preload) (before after : State) → IsPreloaded files preload before after → Pools
given_pools files None before after is = λ address. None
given_pools files (Some p) before after loaded = with_at p.owner (Some loaded.objects) (λ address. None)

-- ---- the lines taken by a replay that ended early

-- The reading of the line whose text is written in part, if there is one.
abbrev pub reading_in_part : (last : ReplayState) (n : ℕ) (lines : List (List ℕ)) (now : State) (text : List ℕ) → LeavesLines last n lines now text → List LineReading
reading_in_part last n lines now text (inl none) = []
reading_in_part last n lines now text (inr part) = part.reading ∷ []

-- The reading of the line after those whose text is written whole, if it is taken.
abbrev pub reading_behind : (last : ReplayState) (n : ℕ) (readings : List LineReading) (lines : List (List ℕ)) (now : State) (text : List ℕ)
    → LeavesLines last n lines now text ⊎ BeginsCounts last readings lines now text → List LineReading
reading_behind last n readings lines now text (inl leaves) = reading_in_part last n lines now text leaves
reading_behind last n readings lines now text (inr counts) = []

-- The readings of the lines that a replay took before it ended early.
abbrev pub readings_taken : (start : State) (input : List ℕ) (now : State) (old new : Option (List ℕ)) → HasStopped start input now old new → List LineReading
readings_taken start input now old new (inl before) = []
readings_taken start input now old new (inr s) =
    s.readings ++ reading_behind s.last (length s.front + 1) s.readings s.back now s.text s.leaves

-- The terminal of the options has their pool in force. From any terminal whose pools are in force a replay keeps the promise, and a
-- replay that ended early keeps it over the lines that it took.
pub record ReplaysNeverStick : Type 0 where
  pub start : (files : FileContents) (options : Options) (s : State) → (is : IsStart files options s)
      → ArePoolsInForce (given_pools files options.preload (new_state options.own options.name) s is) s
  pub replay : (pools : Pools) (start now : State) (input text : List ℕ) (counts : Counts) → ArePoolsInForce pools start
      → (r : IsReplay start input text counts now) → LinesKeep pools start r.readings now
  pub stopped : (pools : Pools) (start now : State) (input : List ℕ) (old new : Option (List ℕ)) → ArePoolsInForce pools start
      → (stopped : HasStopped start input now old new) → LinesKeep pools start (readings_taken start input now old new stopped) now
