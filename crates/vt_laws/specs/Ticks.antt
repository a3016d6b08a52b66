-- Ticks, and the profile of a terminal (docs/PROFILE.md, "Ticks", "Other messages").
use Rattle.std.specs.Prelude.{◌≡◌, ◌<◌, ◌^◌, ℕ, max, false, [], ◌++◌}
use Rattle.vt_can.specs.declared.frames.frame.Frame.{Frame}
use Rattle.vt_can.specs.frames.Frame.{source_of}
use Rattle.vt_stores.specs.Stores.{ObjectMap}
use Rattle.vt_node.specs.Bus.{meaning_of}
use Rattle.vt_node.specs.declared.bus.FrameMeaning.TheVariants.{Nothing}
use Rattle.vt_server.specs.frame.Deadlines.{IsDue, echo}
use Rattle.vt_server.specs.frame.TimeoutActs.{at_time, lapsed, sent_by_lapses}
use Rattle.vt_server.specs.message.Verdicts.{Verdict}
use Rattle.vt_server.specs.Steps.{Step, JudgedInput, FrameAt, step, with_shown_updated, sent_by_shown_update, preloading}
use Rattle.vt_server.specs.Terminals.{State}

-- The time moves on: sessions time out, silent sets are closed, and the shown set is chosen.
abbrev pub ticking : State → ℕ → Step
ticking s time = let t = at_time s time in record {
  after = with_shown_updated (lapsed t);
  sent = sent_by_lapses t ++ sent_by_shown_update s (lapsed t);
}

-- An echo does what a tick does, and the frame of a tick is one.
pub record EchoesAreTicks : Type 0 where
  pub echoes : (s : State) (time : ℕ) (frame : Frame) (verdict : Verdict) → s.lost ≡ false
      → source_of frame ≡ s.claims.own → meaning_of s.claims.own s.claims.name frame ≡ Nothing
      → step s (FrameAt time frame verdict) ≡ ticking s time
  pub source : (own : ℕ) → own < 2 ^ 8 → source_of (echo own) ≡ own
  pub meaning : (own name : ℕ) → own < 2 ^ 8 → meaning_of own name (echo own) ≡ Nothing

-- A tick at which nothing is due sends nothing, and changes the time alone.
abbrev pub OthersAreIdle : Type 0
OthersAreIdle = (s : State) (time : ℕ) (verdict : Verdict) → s.lost ≡ false → s.claims.own < 2 ^ 8 → (IsDue s time → ⊥)
    → step s (FrameAt time (echo s.claims.own) verdict) ≡ record { after = record s { now = max s.now time }; sent = [] }

-- Each step and each preload keeps the profile.
pub record ProfilesAreKept : Type 0 where
  pub steps : (s : State) (e : JudgedInput) → (step s e).after.profile ≡ s.profile
  pub preloads : (s : State) (address : ℕ) (contents : ObjectMap) → (preloading s address contents).profile ≡ s.profile
