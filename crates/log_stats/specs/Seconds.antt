-- The seconds of a log (docs/PROFILE.md, "A log in numbers").
use Rattle.std.specs.Prelude.{◌≡◌, ◌<◌, ◌≤◌, ◌-◌, ◌%◌, ◌==◌, ◌++◌, ℕ, nat_le, if◌then◌else◌, Option, None, Some, List, [], ◌∷◌, All}
use Rattle.log_stats.specs.declared.busy_seconds.BusySecond.{BusySecond}
use Rattle.log_traffic.specs.declared.counts.Counts.{Counts}
use Rattle.log_traffic.specs.Counted.{nothing, with_frame}

-- a frame by its time, in microseconds, and its number of bytes
pub record Sent : Type 0 where
  pub time : ℕ
  pub length : ℕ

-- the time of the first of some frames, of which the latest stands first
abbrev pub first_time : List Sent → ℕ
first_time [] = 0
first_time (only ∷ []) = only.time
first_time (later ∷ earlier ∷ rest) = first_time (earlier ∷ rest)

-- where the second of a time begins in a log whose first frame has another time
abbrev pub start_of : ℕ → ℕ → ℕ
start_of first time = time - (time - first) % 1000000

-- the counts of those of some frames that were sent in the second that begins at a time
abbrev pub counts_of : ℕ → ℕ → List Sent → Counts
counts_of first start [] = nothing
counts_of first start (frame ∷ rest) =
    if start_of first frame.time == start then with_frame (counts_of first start rest) frame.length else counts_of first start rest

-- how much some frames have sent in the second that begins at a time
abbrev pub sent_in : List Sent → ℕ → Counts
sent_in frames start = counts_of (first_time frames) start frames

-- the counts of the second that begins at a time, among some seconds
abbrev pub counts_at : List BusySecond → ℕ → Counts
counts_at [] start = nothing
counts_at (second ∷ rest) start = if second.start == start then second.counts else counts_at rest start

-- the seconds begin one after the other
abbrev pub AreRising : List BusySecond → Type 0
AreRising [] = Unit {0}
AreRising (second ∷ rest) = All (λ later. second.start < later.start) rest × AreRising rest

-- where the first second begins, or a time if there is none
abbrev pub begin_of : List BusySecond → ℕ → ℕ
begin_of [] time = time
begin_of (second ∷ rest) time = second.start

-- These frames were counted, none after a time, of which the latest stands first: each in its second.
pub record HasCounted (frames : List Sent) (latest : ℕ) (seconds : List BusySecond) : Type 0 where
  pub counts : (start : ℕ) → counts_at seconds start ≡ sent_in frames start
  pub none : (seconds ≡ [] → frames ≡ []) × (frames ≡ [] → seconds ≡ [])
  pub begins : begin_of seconds (first_time frames) ≡ first_time frames
  pub from : first_time frames ≤ latest
  pub rising : AreRising seconds
  pub ended : All (λ second. second.start ≤ start_of (first_time frames) latest) seconds
  pub busy : All (λ second. 0 < second.counts.bits) seconds

-- A second has the most bits of all of a log, and the first one of these: no other one has more, and each earlier one has fewer.
pub record IsBusiest (frames : List Sent) (busiest : BusySecond) : Type 0 where
  pub counts : busiest.counts ≡ sent_in frames busiest.start
  pub most : (start : ℕ) → (sent_in frames start).bits ≤ busiest.counts.bits
  pub first : (start : ℕ) → start < busiest.start → (sent_in frames start).bits < busiest.counts.bits

-- the one with more bits of two seconds, or the first if they have as many
abbrev pub busier : Option BusySecond → BusySecond → BusySecond
busier None second = second
busier (Some first) second = if nat_le second.counts.bits first.counts.bits then first else second

-- the first of those of some seconds that have the most bits
pub record IsFirstMost (seconds : List BusySecond) (busiest : BusySecond) : Type 0 where
  pub earlier : List BusySecond
  pub later : List BusySecond
  pub parts : seconds ≡ earlier ++ busiest ∷ later
  pub fewer : All (λ second. second.counts.bits < busiest.counts.bits) earlier
  pub not_more : All (λ second. second.counts.bits ≤ busiest.counts.bits) later
