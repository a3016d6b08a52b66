use Rattle.std.proofs.Common.{◌≡◌, ℕ, List, length, replicate, refl, rules}
use Rattle.vt_rank.proofs.RankSearch.{search_begins}
use Rattle.vt_rank.proofs.search.Search.new.Goals as goal

pub returns : goal.returns
returns c =
    let ranks : List ℕ = replicate 256 0 in
    let size : length ranks ≡ 256 = search rules in
    λ g. search_begins g _ c.new.ensures c.new-2.ensures size size refl
