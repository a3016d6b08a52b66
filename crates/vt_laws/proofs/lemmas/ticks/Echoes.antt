-- An echo makes the step of a tick.
use Rattle.std.proofs.Common.{◌≡◌, ◌<◌, ◌^◌, ℕ, Bool, false, cond, List, [], ◌∷◌, ◌++◌, sym, ap, ◌∙◌, arith, eq-eqb}
use Rattle.vt_can.specs.declared.frames.frame.Frame.{Frame}
use Rattle.vt_can.specs.frames.Identifier.{PartsAreIdentifiers, Parts, parts_of, pgn_of, destination_of, raw_of, addressed}
use Rattle.vt_can.specs.frames.Frame.{source_of}
use Rattle.vt_node.specs.Bus.{meaning_of, frame_meaning, group_meaning, unless_echo}
use Rattle.vt_node.specs.declared.bus.FrameMeaning.{FrameMeaning}
use Rattle.vt_node.specs.declared.bus.FrameMeaning.TheVariants.{Nothing}
use Rattle.vt_server.specs.frame.Deadlines.{echo}
use Rattle.vt_server.specs.frame.TimeoutActs.{at_time, lapsed, sent_by_lapses}
use Rattle.vt_server.specs.message.Verdicts.{Verdict}
use Rattle.vt_server.specs.state.AddressViews.{Act, Hears}
use Rattle.vt_server.specs.Steps.{Step, FrameAt, step, step_frame, no_step, behind_lapses, hearing, heard_at_source, with_shown_updated, sent_by_shown_update}
use Rattle.vt_server.specs.Terminals.{State, after_acts, sent_by_acts}
use Rattle.vt_server.proofs.lemmas.steps.StepInvariants.{claims-lapsed}
use Rattle.vt_laws.specs.Ticks.{ticking}

-- a step with these acts after the timeouts, and no answer to a claim
abbrev acting-by : State → State → List (ℕ × Act) → Step
acting-by s t hs = record {
  after = with_shown_updated (after_acts (lapsed t) hs);
  sent = sent_by_lapses t ++ (sent_by_acts (lapsed t) hs ++ sent_by_shown_update s (after_acts (lapsed t) hs));
}

module _ (s : State) (time : ℕ) (frame : Frame) (verdict : Verdict) (own : source_of frame ≡ s.claims.own) where
  none-heard : heard_at_source (lapsed (at_time s time)).claims.own (source_of frame) Nothing frame verdict ≡ []
  none-heard =
      ap (λ (b : Bool). cond b [] ((source_of frame, Hears Nothing frame verdict) ∷ []))
      (eq-eqb (source_of frame) (lapsed (at_time s time)).claims.own (own ∙ sym (ap (λ c. c.own) (claims-lapsed (at_time s time)))))

  pub echo-ticks : s.lost ≡ false → meaning_of s.claims.own s.claims.name frame ≡ Nothing → step s (FrameAt time frame verdict) ≡ ticking s time
  echo-ticks kept nothing =
      let t = at_time s time in
      ap (λ (b : Bool). cond b (no_step s) (step_frame s time frame verdict)) kept
      ∙ ap (λ (n : FrameMeaning). behind_lapses t (hearing s (lapsed t) (source_of frame) n frame verdict)) nothing
      ∙ ap (acting-by s t) none-heard

-- ---- the frame of a tick

module _ (law : PartsAreIdentifiers) (own : ℕ) (fits : own < 2 ^ 8) where
  echo-parts : parts_of (raw_of (addressed 5 0xE600 0xFF own)) ≡ addressed 5 0xE600 0xFF own
  echo-parts = law.parts_again (addressed 5 0xE600 0xFF own)
      (record { priority = omega arith; extended_data_page = omega arith; data_page = omega arith; pdu_format = omega arith; pdu_specific = omega arith; source = fits })

  pub echo-source : source_of (echo own) ≡ own
  echo-source = ap (λ (p : Parts). p.source) echo-parts

  pub echo-meaning : (name : ℕ) → meaning_of own name (echo own) ≡ Nothing
  echo-meaning name =
      ap (λ (b : Bool). cond b (unless_echo name (frame_meaning own (echo own))) (frame_meaning own (echo own))) (eq-eqb (source_of (echo own)) own echo-source)
      ∙ ap (λ (p : Parts). unless_echo name (group_meaning own (pgn_of p) (destination_of p) [])) echo-parts
