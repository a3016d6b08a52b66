use Rattle.std.proofs.Common.{◌≡◌, length, rules}
use Rattle.std.proofs.lemmas.Fn.{always_returns_same}
use Rattle.vt_stores.proofs.SortedEntries.{sorted_rises, sorted_is}
use Rattle.vt_stores.proofs.StoreMethods.{still_named, distinct_in}
use Rattle.vt_stores.proofs.sorting.sort.Goals as goal

pub returns : goal.returns
returns c =
    let es = c.args.entries.now.items in
    let sorted = c.sort_by_key.new.self.items in
    let len : length es ≡ length sorted = search rules in
    let stable = c.sort_by_key.ensures.stable (λ e. e.0) (always_returns_same _ (λ a r. r ≡ a.0.now.0) _ (λ a r f k. search rules)) in
    let distinct = distinct_in es c.requires in
    let by_key = c.in_ok-sort_by_key.ensures.sorted (λ e. e.0) (always_returns_same _ (λ a r. r ≡ a.0.now.0) _ (λ a r f k. search rules)) in
    record {
      stored = still_named es sorted c.sort_by_key.ensures.permutation c.requires (sorted_rises es sorted len distinct stable by_key);
      sorted = sorted_is es sorted len distinct stable by_key;
    }
