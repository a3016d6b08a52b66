-- Gaps between messages that are sent each second (docs/PROFILE.md, "A log in numbers").
use Rattle.std.specs.Prelude.{◌≡◌, ◌<◌, ◌≤◌, ◌-◌, ◌^◌, ℕ, Bool, nat_lt, nat_le, min, Option, None, Some, if◌then◌else◌, List, [], ◌∷◌, ◌++◌, length, filter, All, MatchOption}
use Rattle.log_traffic.specs.declared.moment.Moment.{Moment}
use Rattle.log_times.specs.declared.rhythm.Gap.{Gap}
use Rattle.log_times.specs.declared.rhythm.Rhythm.{Rhythm}

-- the microseconds from the message before to the one after
abbrev pub length_of : Gap → ℕ
length_of gap = gap.to.time - gap.from.time

-- the times between each message and the next one, of messages of which the latest is first
abbrev pub times_between : List Moment → List Gap
times_between [] = []
times_between (only ∷ []) = []
times_between (later ∷ earlier ∷ rest) = record { from = earlier; to = later } ∷ times_between (earlier ∷ rest)

-- more than three seconds are a gap
abbrev pub is_gap : Gap → Bool
is_gap between = nat_lt 3000000 (length_of between)

-- the gaps between these messages, of which the latest is first
abbrev pub gaps_of : List Moment → List Gap
gaps_of messages = filter is_gap (times_between messages)

-- the longer one of two gaps, or the first if they are as long
abbrev pub longer : Option Gap → Gap → Gap
longer None second = second
longer (Some first) second = if nat_le (length_of second) (length_of first) then first else second

-- The longest of some gaps, of which the latest is first: no later one is longer, and each earlier one is shorter.
pub record IsLongest (gaps : List Gap) (longest : Gap) : Type 0 where
  pub later : List Gap
  pub earlier : List Gap
  pub parts : gaps ≡ later ++ longest ∷ earlier
  pub not_longer : All (λ gap. length_of gap ≤ length_of longest) later
  pub shorter : All (λ gap. length_of gap < length_of longest) earlier

-- These messages were taken, of which the latest is first: all of their gaps are counted, and the longest is known.
pub record HasTaken (messages : List Moment) (rhythm : Rhythm) : Type 0 where
  pub before : List Moment
  pub last : messages ≡ rhythm.last ∷ before
  pub count : rhythm.count ≡ min (length (gaps_of messages)) (2 ^ 64 - 1)
  pub longest : MatchOption rhythm.longest (gaps_of messages ≡ []) (IsLongest (gaps_of messages))
