-- Texts that gain the trace of a line.
use Rattle.std.proofs.Common.{◌≡◌, ◌∙◌, ℕ, List, [], ◌++◌, OnOk, Result, Ok, Err, refl, sym, ap, subst, append_assoc, append-nil}
use Rattle.vt_can.specs.declared.frames.frame.Frame.{Frame}
use Rattle.vt_can.specs.declared.lines.line.LineFault.{LineFault}
use Rattle.vt_can.specs.declared.lines.line.Skipped.{Skipped}
use Rattle.vt_can.specs.lines.Actions.{ActionValue}
use Rattle.vt_can.specs.lines.Readings.{ParsedLine, FrameAt, OperatorAction, SkippedFrame, CommentLine}
use Rattle.vt_logs.proofs.SentByInputs.{input_sends}
use Rattle.vt_logs.specs.LineEffects.{Sends, SendsByInput, input_line}
use Rattle.vt_logs.specs.Texts.{LineReading}
use Rattle.vt_server.specs.States.{TakesInput}
use Rattle.vt_server.specs.Terminals.{State}
use Rattle.vt_server.specs.declared.input.Input.{Input}
use Rattle.vt_server.specs.declared.output.Output.{Output}
use Rattle.vt_server.specs.shown.Screens.{IsScreenOf}
use Rattle.log_trace.specs.Changes.{AreScreenChanges, lines_in}
use Rattle.log_trace.specs.Lines.{Gains}
use Rattle.log_trace.specs.Traces.{AreOutputLines, IsHead, IsHeadOf, TracesInput, TracesLine}
use Rattle.log_trace.proofs.OneDifference.{own_changes}

-- what follows from two facts on a success
pub on_ok_both : {T E P Q R : Type 0} (r : Result T E) → (P → Q → R) → OnOk r P → OnOk r Q → OnOk r R
on_ok_both (Ok x) f p q = f p q
on_ok_both (Err e) f p q = tt

-- ---- inputs

-- A text gains the lines of the outputs at an input, and then the changes.
pub gains_input : (from to : State) (input : Input) (before sent : List Output) (old new a b c : List ℕ) → before ≡ [] → TakesInput from input to before sent
    → Gains (AreOutputLines sent) a b → (IsScreenOf from old → IsScreenOf to new) → Gains (AreScreenChanges old new) b c → Gains (TracesInput from (input_line input) to old new) a c
gains_input from to input before sent old new a b c none taken answers screen gained = record {
  part = answers.part ++ gained.part;
  part_is = record {
    sent = sent;
    answers = answers.part;
    changes = gained.part;
    takes = input_sends from to input before sent none taken;
    answers_are = answers.part_is;
    screen = screen;
    changes_are = gained.part_is;
    whole = refl;
  };
  whole = gained.whole ∙ ap (λ t. t ++ gained.part) answers.whole ∙ append_assoc a answers.part gained.part;
}

-- ---- lines

-- A text gains the head of a line that is an input, and then the trace of the input.
gains_line : (n : ℕ) (from to : State) (line : ParsedLine) (reading : LineReading) (old new a b c : List ℕ) → ((sent : List Output) → SendsByInput from line to sent → Sends from reading to sent)
    → ((head : List ℕ) → IsHead n head → IsHeadOf n reading head) → Gains (IsHead n) a b → Gains (TracesInput from line to old new) b c
    → Gains (TracesLine n from reading to old new) a c
gains_line n from to line reading old new a b c sends heads h i = record {
  part = h.part ++ i.part;
  part_is = record {
    sent = i.part_is.sent;
    head = h.part;
    answers = i.part_is.answers;
    changes = i.part_is.changes;
    takes = sends i.part_is.sent i.part_is.takes;
    head_is = heads h.part h.part_is;
    answers_are = i.part_is.answers_are;
    screen = i.part_is.screen;
    changes_are = i.part_is.changes_are;
    whole = ap (λ t. h.part ++ t) i.part_is.whole ∙ sym (append_assoc h.part i.part_is.answers i.part_is.changes);
  };
  whole = i.whole ∙ ap (λ t. t ++ i.part) h.whole ∙ append_assoc a h.part i.part;
}

frame_traced : (n : ℕ) (from to : State) (time : ℕ) (frame : Frame) (old new a b c : List ℕ) → Gains (IsHead n) a b
    → Gains (TracesInput from (FrameAt time frame) to old new) b c → Gains (TracesLine n from (Ok (FrameAt time frame)) to old new) a c
frame_traced n from to time frame old new a b c = gains_line n from to (FrameAt time frame) (Ok (FrameAt time frame)) old new a b c (λ sent s. s) (λ head h. h)

-- The same, of a copy of the frame.
pub gains_frame_line : (n : ℕ) (from to : State) (time : ℕ) (frame copy : Frame) (old new a b c : List ℕ) → copy ≡ frame → Gains (IsHead n) a b
    → Gains (TracesInput from (FrameAt time copy) to old new) b c → Gains (TracesLine n from (Ok (FrameAt time frame)) to old new) a c
gains_frame_line n from to time frame copy old new a b c same head input =
    subst (λ (f : Frame). Gains (TracesLine n from (Ok (FrameAt time f)) to old new) a c) same (frame_traced n from to time copy old new a b c head input)

pub gains_action_line : (n : ℕ) (from to : State) (action : ActionValue) (old new a b c : List ℕ) → Gains (IsHead n) a b
    → Gains (TracesInput from (OperatorAction action) to old new) b c → Gains (TracesLine n from (Ok (OperatorAction action)) to old new) a c
gains_action_line n from to action old new a b c =
    gains_line n from to (OperatorAction action) (Ok (OperatorAction action)) old new a b c (λ sent s. s) (λ head h. h)

-- A text gains the head of a line that is no input, or nothing.
traced_alone : (n : ℕ) (s : State) (reading : LineReading) (screen head : List ℕ) → Sends s reading s [] → IsHeadOf n reading head
    → TracesLine n s reading s screen screen head
traced_alone n s reading screen head sends is = record {
  sent = [];
  head = head;
  answers = [];
  changes = [];
  takes = sends;
  head_is = is;
  answers_are = record { lines = []; each = tt; whole = refl };
  screen = λ is_screen. is_screen;
  changes_are = own_changes (lines_in screen);
  whole = sym (append-nil (head ++ []) ∙ append-nil head);
}

pub gains_skipped_line : (n : ℕ) (s : State) (why : Skipped) (screen a b : List ℕ) → Gains (IsHead n) a b
    → Gains (TracesLine n s (Ok (SkippedFrame why)) s screen screen) a b
gains_skipped_line n s why screen a b h = record {
  part = h.part;
  part_is = traced_alone n s (Ok (SkippedFrame why)) screen h.part (refl, refl) h.part_is;
  whole = h.whole;
}

pub gains_faulty_line : (n : ℕ) (s : State) (fault : LineFault) (screen a b : List ℕ) → Gains (IsHead n) a b → Gains (TracesLine n s (Err fault) s screen screen) a b
gains_faulty_line n s fault screen a b h = record {
  part = h.part;
  part_is = traced_alone n s (Err fault) screen h.part (refl, refl) h.part_is;
  whole = h.whole;
}

-- A comment adds nothing.
pub gains_comment : (n : ℕ) (s : State) (screen a : List ℕ) → Gains (TracesLine n s (Ok CommentLine) s screen screen) a a
gains_comment n s screen a = record {
  part = [];
  part_is = traced_alone n s (Ok CommentLine) screen [] (refl, refl) refl;
  whole = sym (append-nil a);
}

-- What a text has gained at a line, as it was read.
pub gained_by : (n : ℕ) (from to : State) (reading same : LineReading) (old new a b : List ℕ) → reading ≡ same → Gains (TracesLine n from same to old new) a b
    → (added : List ℕ) × (b ≡ a ++ added) × TracesLine n from reading to old new added
gained_by n from to reading same old new a b is gained =
    (gained.part, gained.whole, subst (λ (r : LineReading). TracesLine n from r to old new gained.part) (sym is) gained.part_is)
