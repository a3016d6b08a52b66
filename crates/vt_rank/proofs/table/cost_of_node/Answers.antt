use Rattle.std.proofs.Common.{subst, List, get_or}
use Rattle.std.specs.List.{Contains}
use Rattle.std.proofs.lemmas.List.Elements.{Contains-get_or}
use Rattle.vt_rank.specs.declared.graph.Item.{Item}
use Rattle.vt_rank.specs.declared.graph.Item.TheVariants.{Step}
use Rattle.vt_rank.specs.Graphs.{nodes_of, items_of}
use Rattle.vt_rank.proofs.Totals.{Contains-flat_map}
use Rattle.vt_rank.proofs.table.cost_of_node.Goals as goal

pub cost_of_item-cost-requires-clause-settled : goal.cost_of_item-cost-requires-clause-settled
cost_of_item-cost-requires-clause-settled c = λ n inside.
    let g = c.args.graph.now in
    let item : Item = get_or c.items-item-items.result.now c.loop-item.item-index Step in
    let among : Contains (items_of g c.args.node) item = subst (λ (items : List Item). Contains items item) c.items-item-items.ensures (Contains-get_or c.items-item-items.result.now c.loop-item.item-index Step c.loop-item-test.true) in
    c.requires.settled n (Contains-flat_map (nodes_of g) (items_of g c.args.node) item n among inside)
