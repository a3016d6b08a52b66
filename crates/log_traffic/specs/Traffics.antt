-- The frames of a log: how they are counted.
use Rattle.std.specs.Prelude.{◌≡◌, ◌≢◌, ℕ, Some, List, [], ◌∷◌, ◌++◌, length, cond, option_map, unwrap_or}
use Rattle.vt_can.specs.declared.frames.frame.Frame.{Frame}
use Rattle.vt_can.specs.frames.Frame.{source_of}
use Rattle.log_listen.specs.Listeners.{HasHeard}
use Rattle.log_traffic.specs.declared.counts.Counts.{Counts}
use Rattle.log_traffic.specs.declared.traffic.Traffic.{Traffic}
use Rattle.log_traffic.specs.declared.sightings.Sighting.{Sighting}
use Rattle.log_traffic.specs.Counted.{more, with_frame, counts_in}
use Rattle.log_traffic.specs.Passages.{CountsTransfers}
use Rattle.log_traffic.specs.Sightings.{sighting_of, is_seen_twice, HasSeen}
use Rattle.log_traffic.specs.Spans.{with_frame_at}

-- how much a source has sent, and how much all have
abbrev pub counts_from : Traffic → ℕ → Counts
counts_from traffic source = counts_in traffic.sources.counts source

abbrev pub total_of : Traffic → Counts
total_of traffic = traffic.sources.total

-- these frames were counted, of which the latest is first
abbrev pub HasTaken : List Frame → Traffic → Type 0
HasTaken frames traffic = HasHeard frames traffic.transfers.listener

-- the latest time so far, or 0
abbrev pub latest_of : Traffic → ℕ
latest_of traffic = unwrap_or (option_map (λ span. span.last_time) traffic.span) 0

-- these frames were counted, of which the latest is last, each with the latest time when it was counted
abbrev pub HasSighted : List Sighting → Traffic → Type 0
HasSighted taken traffic = HasSeen taken (latest_of traffic) traffic.sightings

-- how many frames were seen twice
abbrev pub twice_of : Traffic → ℕ
twice_of traffic = traffic.sightings.seen_twice

-- A frame of a line and a time is counted: for its source and in all, and for no other source; in the span; among the transfers; and among
-- the frames that were seen twice, if it was.
pub record CountsFrame (line time : ℕ) (old new : Traffic) (frame : Frame) : Type 0 where
  pub own : counts_from new (source_of frame) ≡ with_frame (counts_from old (source_of frame)) (length frame.bytes.items)
  pub others : (source : ℕ) → source ≢ source_of frame → counts_from new source ≡ counts_from old source
  pub total : total_of new ≡ with_frame (total_of old) (length frame.bytes.items)
  pub span : new.span ≡ Some (with_frame_at line time old.span)
  pub taken : (frames : List Frame) → HasTaken frames old → HasTaken (frame ∷ frames) new
  pub transfers : (frames : List Frame) → HasTaken frames old → CountsTransfers frames frame old.transfers.counted new.transfers.counted
  pub seen : (taken : List Sighting) → HasSighted taken old → HasSighted (taken ++ sighting_of (latest_of new) frame ∷ []) new
  pub twice : (taken : List Sighting) → HasSighted taken old
      → twice_of new ≡ cond (is_seen_twice taken (sighting_of (latest_of new) frame)) (more (twice_of old) 1) (twice_of old)
