-- Frames that were seen twice.
use Rattle.std.specs.Prelude.{◌≡◌, ◌<◌, ◌≤◌, ◌+◌, ◌-◌, ◌⊎◌, ℕ, Bool, ◌&&◌, nat_eq, nat_le, List, [], ◌++◌, length, drop, replicate, All, slice_index_or}
use Rattle.std.specs.List.{list_any}
use Rattle.std.specs.Str.{bytes_eq}
use Rattle.vt_can.specs.declared.frames.frame.Frame.{Frame}
use Rattle.log_traffic.specs.declared.sightings.Sighting.{Sighting}
use Rattle.log_traffic.specs.declared.sightings.Sightings.{Sightings}

-- a frame at a time in microseconds, with zeros behind its data
abbrev pub sighting_of : ℕ → Frame → Sighting
sighting_of time frame = record {
  time = time;
  id = frame.id;
  length = length frame.bytes.items;
  padded = frame.bytes.items ++ replicate (8 - length frame.bytes.items) 0;
}

-- the same identifier and the same data
abbrev pub is_same : Sighting → Sighting → Bool
is_same one other = nat_eq one.id other.id && nat_eq one.length other.length && bytes_eq one.padded other.padded

-- one frame is at most a millisecond before another
abbrev pub is_soon_before : Sighting → Sighting → Bool
is_soon_before one other = nat_le (other.time - one.time) 1000

-- A frame is seen twice if one of the 63 frames before it is the same, and at most a millisecond earlier.
abbrev pub is_seen_twice : List Sighting → Sighting → Bool
is_seen_twice before frame = list_any (λ other. is_soon_before other frame && is_same other frame) (drop (length before - 63) before)

-- of two frames the earlier one comes first
abbrev pub AreInOrder : List Sighting → Type 0
AreInOrder frames = (j k : ℕ) (d : Sighting) → j ≤ k → k < length frames → (slice_index_or frames j d).time ≤ (slice_index_or frames k d).time

-- a frame is more than a millisecond before a time
abbrev pub IsTooOld : ℕ → Sighting → Type 0
IsTooOld time frame = frame.time + 1000 < time

-- These frames were taken in their order, none after a time. The last of them are kept: at least 63, or all that are not too old.
pub record HasSeen (taken : List Sighting) (latest : ℕ) (sightings : Sightings) : Type 0 where
  pub past : List Sighting
  pub parts : taken ≡ past ++ sightings.recent.items
  pub in_order : AreInOrder taken
  pub times : All (λ frame. frame.time ≤ latest) taken
  pub forgotten : All (IsTooOld latest) past ⊎ (63 ≤ length sightings.recent.items)

-- The first of some frames are gone, or none is. The last one that is gone is too old for a time, or 63 are left.
pub record AreLeft (time : ℕ) (old new : List Sighting) : Type 0 where
  pub gone : List Sighting
  pub parts : old ≡ gone ++ new
  pub reason : (gone ≡ []) ⊎ (((d : Sighting) → IsTooOld time (slice_index_or gone (length gone - 1) d)) ⊎ (63 ≤ length new))
