-- The least, the middle and the greatest of some times (docs/PROFILE.md, "A log in numbers").
use Rattle.std.specs.Prelude.{◌≡◌, ◌+◌, ◌-◌, ◌/◌, ℕ, List, length, slice_index}
use Rattle.std.specs.List.Sorted.{IsPermutation, IsNonDecreasing}
use Rattle.log_times.specs.declared.summary.TimeSummary.{TimeSummary}

-- the one in the middle of times in rising order: half of the sum of the two that are nearest to it, which are the same if there is one
abbrev pub middle_of : List ℕ → ℕ
middle_of rising = (slice_index rising ((length rising - 1) / 2) + slice_index rising (length rising / 2)) / 2

-- a summary of times that are in rising order
pub record IsSummaryOfRising (rising : List ℕ) (summary : TimeSummary) : Type 0 where
  pub count : summary.count ≡ length rising
  pub least : summary.least ≡ slice_index rising 0
  pub median : summary.median ≡ middle_of rising
  pub greatest : summary.greatest ≡ slice_index rising (length rising - 1)

-- a summary of times in any order
pub record IsSummaryOf (times : List ℕ) (summary : TimeSummary) : Type 0 where
  pub rising : List ℕ
  pub same : IsPermutation times rising
  pub in_order : IsNonDecreasing rising
  pub told : IsSummaryOfRising rising summary
