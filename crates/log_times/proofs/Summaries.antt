-- Summaries of times.
use Rattle.std.proofs.Common.{◌≡◌, ℕ, List, [], ◌∷◌, length, ap, refl, arith}
use Rattle.std.specs.Prelude.{Option, Some, None, MatchOption}
use Rattle.std.specs.List.Sorted.{IsPermutation, IsNonDecreasing}
use Rattle.log_times.specs.declared.summary.TimeSummary.{TimeSummary}
use Rattle.log_times.specs.Summaries.{IsSummaryOf, IsSummaryOfRising}

empty_of : (times rising : List ℕ) → length rising ≡ length times → rising ≡ [] → times ≡ []
empty_of [] rising long none = refl
empty_of (time ∷ times) rising long none = absurd (omega (arith, long, ap length none))

-- the summary of times in rising order is that of the times in any order
pub summary_of_any : (times rising : List ℕ) (told : Option TimeSummary) → length rising ≡ length times → IsPermutation times rising → IsNonDecreasing rising
    → MatchOption told (rising ≡ []) (IsSummaryOfRising rising) → MatchOption told (times ≡ []) (IsSummaryOf times)
summary_of_any times rising None long same in_order none = empty_of times rising long none
summary_of_any times rising (Some summary) long same in_order told = record { rising = rising; same = same; in_order = in_order; told = told }
