use Rattle.std.proofs.Common.{ℕ, rules}
use Rattle.std.specs.Prelude.{slice_index}
use Rattle.std.proofs.lemmas.List.Sorted.{IsNonDecreasingBy-from_sort_by_key}
use Rattle.vt_stores.specs.Shapes.{shape_of}
use Rattle.vt_verify.proofs.lemmas.graphs.OrderByRank.{ranked}
use Rattle.vt_verify.proofs.order.by_rank.Goals as goal

pub returns : goal.returns
returns c =
    ranked (shape_of c.args.objects.now) c.args.triggers.now.events.keys c.args.triggers.now.graph c.args.ranks.now c.sort_unstable_by_key.new.self.items c.in_ok-order.order.items
    c.requires.triggers c.requires.ranks c.in_ok-order.ensures c.sort_unstable_by_key.ensures.permutation
    (IsNonDecreasingBy-from_sort_by_key (λ (m : ℕ). slice_index c.args.ranks.now m) c.sort_unstable_by_key.new.self.items c.sort_unstable_by_key.ensures.sorted (λ a r f k. search rules))
