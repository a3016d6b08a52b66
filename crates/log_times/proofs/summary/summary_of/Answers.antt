use Rattle.std.proofs.Common.{◌≡◌, MatchOption, [], rules, subst}
use Rattle.std.proofs.lemmas.List.Sorted.{IsNonDecreasingBy-from_sort}
use Rattle.std.specs.List.Sorted.{IsPermutation}
use Rattle.log_times.specs.Summaries.{IsSummaryOfRising}
use Rattle.log_times.proofs.Summaries.{summary_of_any}
use Rattle.log_times.proofs.summary.summary_of.Goals as goal

pub returns : goal.returns
returns c =
    let rising = c.sort_unstable.new.self.items in
    let copied : c.in_ok-sorted.sorted.items ≡ c.args.times.now = search rules in
    let read : c.as_slice.result.now ≡ rising = search rules in
    summary_of_any c.args.times.now rising c.summary_of_sorted.result (search rules)
    (subst (λ times. IsPermutation times rising) copied c.sort_unstable.ensures.permutation)
    (IsNonDecreasingBy-from_sort (λ time. time) _ c.sort_unstable.ensures.sorted)
    (subst (λ times. MatchOption c.summary_of_sorted.result (times ≡ []) (IsSummaryOfRising times)) read c.summary_of_sorted.ensures)
