-- The sessions on a bus equal those of histories with marks, so each message handed out is whole in a history.
use Rattle.std.proofs.Common.{◌≡◌, ℕ, Bool, true, false, cond, Option, Some, None, List, [], ◌∷◌, refl, sym, ap, subst, ◌∙◌, eq-eqb, eqb-true}
use Rattle.std.specs.Prelude.{◌↔◌}
use Rattle.vt_can.specs.declared.transport.sessions.Timed.{Timed}
use Rattle.vt_can.specs.declared.transport.heard.Heard.{Heard}
use Rattle.vt_can.specs.transport.Messages.{Message}
use Rattle.vt_can.specs.transport.Sessions.{ByAddress, alive, is_overdue}
use Rattle.vt_can.specs.transport.Histories.{SessionEvent, Came, TimedOut, untimed}
use Rattle.vt_can.specs.transport.Protocols.{Protocol}
use Rattle.vt_can.specs.transport.Steps.{event_step, session_after}
use Rattle.vt_can.specs.transport.Bus.{BusFrame, is_from, handed_out, inputs_of, session_after_frame, message_of_frame, session_of, message_at, IsRun}
use Rattle.vt_can.specs.transport.Marks.{with_frame, marked, history_of, SessionsAreOfHistories, Completes, RunsHandOutWholeMessages}
use Rattle.vt_can.proofs.lemmas.transport.Runs.{run_session, message_of}

module _ {S F R : Type 0} (protocol : Protocol S F R) where
  aged_by : (now : ℕ) (xs : List (ℕ × SessionEvent F)) (overdue : Bool)
      → ◌≡◌ {A = Option (Timed S)} (cond overdue None (session_after protocol xs)) (session_after protocol (cond overdue ((now, TimedOut) ∷ xs) xs))
  aged_by now xs true = refl
  aged_by now xs false = refl

  aged : (now : ℕ) (xs : List (ℕ × SessionEvent F)) → alive protocol.timeout now (session_after protocol xs) ≡ session_after protocol (marked protocol now xs)
  aged now xs = aged_by now xs (is_overdue protocol.timeout now (session_after protocol xs))

  session_with_frame : (now : ℕ) (frame : Option F) (xs : List (ℕ × SessionEvent F))
      → session_after_frame protocol now (session_after protocol xs) frame ≡ session_after protocol (with_frame now frame xs)
  session_with_frame now None xs = refl
  session_with_frame now (Some frame) xs = refl

  before : (source now : ℕ) (inputs : List (BusFrame F)) → session_of protocol source inputs ≡ session_after protocol (history_of protocol source inputs)
      → alive protocol.timeout now (session_of protocol source inputs) ≡ session_after protocol (marked protocol now (history_of protocol source inputs))
  before source now inputs same = ap (alive protocol.timeout now) same ∙ aged now (history_of protocol source inputs)

  session_with : (source : ℕ) (i : BusFrame F) (inputs : List (BusFrame F)) (from : Bool)
      → alive protocol.timeout i.time (session_of protocol source inputs) ≡ session_after protocol (marked protocol i.time (history_of protocol source inputs))
      → ◌≡◌ {A = Option (Timed S)}
      (cond from (session_after_frame protocol i.time (alive protocol.timeout i.time (session_of protocol source inputs)) i.frame) (alive protocol.timeout i.time (session_of protocol source inputs)))
      (session_after protocol (cond from (with_frame i.time i.frame (marked protocol i.time (history_of protocol source inputs))) (marked protocol i.time (history_of protocol source inputs))))
  session_with source i inputs true same =
      ap (λ (current : Option (Timed S)). session_after_frame protocol i.time current i.frame) same
      ∙ session_with_frame i.time i.frame (marked protocol i.time (history_of protocol source inputs))
  session_with source i inputs false same = same

  pub sessions_same : SessionsAreOfHistories protocol
  sessions_same source [] = refl
  sessions_same source (i ∷ inputs) = session_with source i inputs (is_from source i) (before source i.time inputs (sessions_same source inputs))

  -- the message handed out at an input of a run

  handed_out_at : (sessions : ByAddress S) (x : BusFrame F × Heard) (run : List (BusFrame F × Heard)) (source : ℕ) → IsRun protocol sessions (x ∷ run)
      → handed_out source x.1 ≡ message_at protocol source x.0 (inputs_of run)
  handed_out_at sessions x run source is =
      is.2.message source
      ∙ message_of protocol is.0 sessions x.0 x.1 source (inputs_of run) _ refl (run_session protocol is.0 run source is.1)

  module _ (IsWhole : List (SessionEvent F) → SessionEvent F → Message → Type 0)
      (gives : (xs : List (ℕ × SessionEvent F)) (x : ℕ × SessionEvent F) (message : Message)
      → ((event_step protocol x.0 (session_after protocol xs) x.1).message ≡ Some message) ↔ IsWhole (untimed xs) x.1 message) where
    whole_frame : (source : ℕ) (i : BusFrame F) (inputs : List (BusFrame F)) (message : Message) (frame : Option F) → i.frame ≡ frame → i.source ≡ source
        → message_of_frame protocol i.time (alive protocol.timeout i.time (session_of protocol source inputs)) frame ≡ Some message
        → Completes protocol IsWhole source i inputs message
    whole_frame source i inputs message None frame_is from is = absurd cc
    whole_frame source i inputs message (Some frame) frame_is from is = record {
      from = from;
      frame = frame;
      frame_is = frame_is;
      whole = (gives (marked protocol i.time (history_of protocol source inputs)) (i.time, Came frame) message).0
          (subst (λ (current : Option (Timed S)). (protocol.step i.time current frame).message ≡ Some message) (before source i.time inputs (sessions_same source inputs)) is);
    }

    whole_input : (source : ℕ) (i : BusFrame F) (inputs : List (BusFrame F)) (message : Message) (from : Bool) → is_from source i ≡ from
        → ◌≡◌ {A = Option Message} (cond from (message_of_frame protocol i.time (alive protocol.timeout i.time (session_of protocol source inputs)) i.frame) None) (Some message)
        → Completes protocol IsWhole source i inputs message
    whole_input source i inputs message true from is = whole_frame source i inputs message i.frame refl (eqb-true _ _ from) is
    whole_input source i inputs message false from is = absurd cc

    completed : (source : ℕ) (i : BusFrame F) (inputs : List (BusFrame F)) (message : Message) → Completes protocol IsWhole source i inputs message
        → message_at protocol source i inputs ≡ Some message
    completed source i inputs message c =
        let whole : (protocol.step i.time (session_after protocol (marked protocol i.time (history_of protocol source inputs))) c.frame).message ≡ Some message =
        (gives (marked protocol i.time (history_of protocol source inputs)) (i.time, Came c.frame) message).1 c.whole in
        ap (λ (b : Bool). cond b (message_of_frame protocol i.time (alive protocol.timeout i.time (session_of protocol source inputs)) i.frame) None) (eq-eqb _ _ c.from)
        ∙ ap (message_of_frame protocol i.time (alive protocol.timeout i.time (session_of protocol source inputs))) c.frame_is
        ∙ ap (λ (current : Option (Timed S)). (protocol.step i.time current c.frame).message) (before source i.time inputs (sessions_same source inputs))
        ∙ whole

    pub run_whole : RunsHandOutWholeMessages protocol IsWhole
    run_whole sessions x run source message is = (
      λ out. whole_input source x.0 (inputs_of run) message _ refl (sym (handed_out_at sessions x run source is) ∙ out),
      λ c. handed_out_at sessions x run source is ∙ completed source x.0 (inputs_of run) message c,
    )
