-- The input of a line: taken with its text written whole or in part, or not taken.
use Rattle.std.proofs.Common.{◌≡◌, ℕ, List, [], ◌++◌, Option, Ok, Err, ◌⊎◌, inl, inr, refl, sym, ap, subst, ◌∙◌}
use Rattle.std.specs.List.{flat_map}
use Rattle.std.specs.Io.KnownBytes.{Appends}
use Rattle.std.proofs.KnownBytes.{Appends-trans, Appends-nil}
use Rattle.vt_can.specs.declared.frames.frame.Frame.{Frame}
use Rattle.vt_can.specs.declared.lines.line.LineFault.{LineFault}
use Rattle.vt_can.specs.lines.Actions.{ActionValue}
use Rattle.vt_can.specs.lines.Readings.{FrameAt, OperatorAction}
use Rattle.vt_logs.specs.EarlyEnds.{Begins, BreaksOff, IsFrontOfPrint}
use Rattle.vt_logs.specs.Progress.{Writes}
use Rattle.vt_logs.specs.LineEffects.{ReplayState, Follows, FollowsInput, TakesInputLine, TakesReading, input_line}
use Rattle.vt_logs.specs.Texts.{line_fault_text, new_screen, output_text}
use Rattle.vt_logs.proofs.EarlyEndInLines.{begins_later, begins_more}
use Rattle.vt_logs.proofs.SentByInputs.{event_of_line}
use Rattle.vt_server.specs.Outputs.{outputs_of}
use Rattle.vt_server.specs.shown.Screens.{IsScreenOf}
use Rattle.vt_server.specs.States.{TakesInput}
use Rattle.vt_server.specs.Steps.{step}
use Rattle.vt_server.specs.Terminals.{State}
use Rattle.vt_server.specs.declared.input.Input.{Input}
use Rattle.vt_server.specs.declared.output.Output.{Output}

-- ---- inputs

-- The text of a line whose input the terminal took.
pub input_prints : (a b : ReplayState) (input : Input) (before after : List Output) → before ≡ [] → TakesInput a.state input b.state before after → IsScreenOf b.state b.screen
    → TakesInputLine a (input_line input) b (flat_map output_text after ++ new_screen a.screen b.screen)
input_prints a b input before after none taken drawn =
    let sends : after ≡ outputs_of (step a.state taken.event).sent =
    taken.sent ∙ ap (λ (outputs : List Output). outputs ++ outputs_of (step a.state taken.event).sent) none in record {
      event = taken.event;
      of_line = event_of_line input taken.event taken.is_input;
      takes = record {
        judged = taken.judged;
        state = taken.state;
        screen = drawn;
        printed = ap (λ (outputs : List Output). flat_map output_text outputs ++ new_screen a.screen b.screen) sends;
      };
    }

-- The terminal took an input, and its outputs and its new screen are written.
pub input_taken : (a b : ReplayState) (input : Input) (after : List Output) (old mid new : Option (List ℕ))
    → TakesInputLine a (input_line input) b (flat_map output_text after ++ new_screen a.screen b.screen) → Appends old mid (flat_map output_text after)
    → Appends mid new (new_screen a.screen b.screen) → Writes (TakesInputLine a (input_line input) b) old new
input_taken a b input after old mid new prints sent shown = record {
  text = flat_map output_text after ++ new_screen a.screen b.screen;
  text_is = prints;
  written = Appends-trans old mid new (flat_map output_text after) (new_screen a.screen b.screen) sent shown;
}

-- ---- where that is not done, or not written whole

-- The terminal did not take an input, and nothing is written.
pub input_refused : (a : ReplayState) (t : State) (input : Input) (held : Option (List ℕ)) → t ≡ a.state
    → Writes (BreaksOff a.state (FollowsInput a.state (input_line input)) (TakesInputLine a (input_line input)) t) held held
input_refused a t input held same = record { text = []; text_is = inl (same, refl); written = Appends-nil held }

-- The terminal took an input, and nothing is written.
pub input_unprinted : (a : ReplayState) (t : State) (input : Input) (before after : List Output) (held : Option (List ℕ)) → TakesInput a.state input t before after
    → Writes (BreaksOff a.state (FollowsInput a.state (input_line input)) (TakesInputLine a (input_line input)) t) held held
input_unprinted a t input before after held taken = record {
  text = [];
  text_is = inr (record {
    done = record { event = taken.event; of_line = event_of_line input taken.event taken.is_input; judged = taken.judged; state = taken.state };
    printed = inl refl;
  });
  written = Appends-nil held;
}

-- The terminal took an input, and the first bytes of its text are written.
input_begun : (a b : ReplayState) (input : Input) (text : List ℕ) (old new : Option (List ℕ)) → TakesInputLine a (input_line input) b text → Begins old new text
    → Writes (BreaksOff a.state (FollowsInput a.state (input_line input)) (TakesInputLine a (input_line input)) b.state) old new
input_begun a b input text old new prints begun = record {
  text = begun.front;
  text_is = inr (record {
    done = record { event = prints.event; of_line = prints.of_line; judged = prints.takes.judged; state = prints.takes.state };
    printed = inr (record { to = b; text = text; rest = begun.rest; takes = prints; now_is = refl; parts = begun.parts });
  });
  written = begun.written;
}

pub sent_begun : (a b : ReplayState) (input : Input) (after : List Output) (old new : Option (List ℕ))
    → TakesInputLine a (input_line input) b (flat_map output_text after ++ new_screen a.screen b.screen) → Begins old new (flat_map output_text after)
    → Writes (BreaksOff a.state (FollowsInput a.state (input_line input)) (TakesInputLine a (input_line input)) b.state) old new
sent_begun a b input after old new prints sent =
    input_begun a b input (flat_map output_text after ++ new_screen a.screen b.screen) old new prints
    (begins_more old new (flat_map output_text after) (new_screen a.screen b.screen) sent)

pub shown_begun : (a b : ReplayState) (input : Input) (after : List Output) (old mid new : Option (List ℕ))
    → TakesInputLine a (input_line input) b (flat_map output_text after ++ new_screen a.screen b.screen) → new_screen a.screen b.screen ≡ b.screen
    → Appends old mid (flat_map output_text after) → Begins mid new b.screen
    → Writes (BreaksOff a.state (FollowsInput a.state (input_line input)) (TakesInputLine a (input_line input)) b.state) old new
shown_begun a b input after old mid new prints is_new sent shown =
    input_begun a b input (flat_map output_text after ++ new_screen a.screen b.screen) old new prints
    (begins_later old mid new (flat_map output_text after) (new_screen a.screen b.screen) sent (subst (Begins mid new) (sym is_new) shown))

-- ---- where a line says it

breaks_as : (Does Follow : State → Type 0) (Takes Read : ReplayState → List ℕ → Type 0) (from now : State) (text : List ℕ) → ((t : State) → Does t → Follow t)
    → ((to : ReplayState) (print : List ℕ) → Takes to print → Read to print) → BreaksOff from Does Takes now text → BreaksOff from Follow Read now text
breaks_as Does Follow Takes Read from now text does takes (inl none) = inl none
breaks_as Does Follow Takes Read from now text does takes (inr part) = inr (record { done = does now part.done; printed = front part.printed })
  where
    front : (text ≡ []) ⊎ IsFrontOfPrint Takes now text → (text ≡ []) ⊎ IsFrontOfPrint Read now text
    front (inl none) = inl none
    front (inr p) = inr (record { to = p.to; text = p.text; rest = p.rest; takes = takes p.to p.text p.takes; now_is = p.now_is; parts = p.parts })

pub frame_off : (s : ReplayState) (n time : ℕ) (frame : Frame) (t : State) (old new : Option (List ℕ))
    → Writes (BreaksOff s.state (FollowsInput s.state (FrameAt time frame)) (TakesInputLine s (FrameAt time frame)) t) old new
    → Writes (BreaksOff s.state (Follows s.state (Ok (FrameAt time frame))) (TakesReading s n (Ok (FrameAt time frame))) t) old new
frame_off s n time frame t old new w = record {
  text = w.text;
  text_is = breaks_as (FollowsInput s.state (FrameAt time frame)) (Follows s.state (Ok (FrameAt time frame))) (TakesInputLine s (FrameAt time frame))
      (TakesReading s n (Ok (FrameAt time frame))) s.state t w.text (λ to p. p) (λ to print p. p) w.text_is;
  written = w.written;
}

pub action_off : (s : ReplayState) (n : ℕ) (action : ActionValue) (t : State) (old new : Option (List ℕ))
    → Writes (BreaksOff s.state (FollowsInput s.state (OperatorAction action)) (TakesInputLine s (OperatorAction action)) t) old new
    → Writes (BreaksOff s.state (Follows s.state (Ok (OperatorAction action))) (TakesReading s n (Ok (OperatorAction action))) t) old new
action_off s n action t old new w = record {
  text = w.text;
  text_is = breaks_as (FollowsInput s.state (OperatorAction action)) (Follows s.state (Ok (OperatorAction action))) (TakesInputLine s (OperatorAction action))
      (TakesReading s n (Ok (OperatorAction action))) s.state t w.text (λ to p. p) (λ to print p. p) w.text_is;
  written = w.written;
}

-- ---- a faulty line

pub fault_begun : (s : ReplayState) (n : ℕ) (fault : LineFault) (old new : Option (List ℕ)) → Begins old new (line_fault_text n fault)
    → Writes (BreaksOff s.state (Follows s.state (Err fault)) (TakesReading s n (Err fault)) s.state) old new
fault_begun s n fault old new begun = record {
  text = begun.front;
  text_is = inr (record {
    done = refl;
    printed = inr (record { to = s; text = line_fault_text n fault; rest = begun.rest; takes = (refl, refl); now_is = refl; parts = begun.parts });
  });
  written = begun.written;
}
