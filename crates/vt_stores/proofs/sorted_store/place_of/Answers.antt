use Rattle.std.proofs.Common.{◌≡◌, refl, rules}
use Rattle.std.proofs.lemmas.Fn.{always_returns_same}
use Rattle.vt_stores.proofs.BinarySearch.{found_in, missed_in}
use Rattle.vt_stores.proofs.sorted_store.place_of.Goals as goal

pub returns-in-None-clause-some : goal.returns-in-None-clause-some
returns-in-None-clause-some c =
    found_in c.args.entries.now c.args.entries.now _ c.raw.result c.args.id c.binary_search_by_key.result c.ok.result
    refl refl c.raw.ensures c.ok.ensures.value c.requires.rising c.binary_search_by_key.ensures.bound
    (c.binary_search_by_key.ensures.position (λ e. e.0) (always_returns_same _ (λ a r. r ≡ a.0.now.0) _ (λ a r f k. search rules)))

pub returns-in-None-clause-none : goal.returns-in-None-clause-none
returns-in-None-clause-none c =
    missed_in c.args.entries.now c.args.entries.now _ c.raw.result c.args.id c.binary_search_by_key.result c.ok.result
    refl refl c.raw.ensures c.ok.ensures.value c.requires.rising c.binary_search_by_key.ensures.bound
    (c.binary_search_by_key.ensures.position (λ e. e.0) (always_returns_same _ (λ a r. r ≡ a.0.now.0) _ (λ a r f k. search rules)))
