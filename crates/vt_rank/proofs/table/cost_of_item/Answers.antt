use Rattle.std.proofs.Common.{◌≡◌, ℕ, min, List, sum_by, sym, ◌∙◌, ap, subst, slice_index}
use Rattle.vt_rank.specs.declared.graph.Item.{Item}
use Rattle.vt_rank.specs.declared.graph.Item.TheVariants.{Group}
use Rattle.vt_rank.specs.Graphs.{nodes_of}
use Rattle.vt_rank.specs.Costs.{item_cost, cost_of}
use Rattle.vt_rank.specs.Tables.{AreSettled}
use Rattle.vt_rank.proofs.Totals.{item_cost-meets}
use Rattle.vt_rank.proofs.table.cost_of_item.Goals as goal

pub cost_of_most_once-requires-clause-settled : goal.cost_of_most_once-requires-clause-settled
cost_of_most_once-requires-clause-settled c =
    subst (λ (item : Item). AreSettled c.args.graph.now c.args.limit c.args.table.now (nodes_of c.args.graph.now item)) c.in-Most.is c.requires.settled

pub returns-in-Group-clause-cost : goal.returns-in-Group-clause-cost
returns-in-Group-clause-cost c =
    let g = c.args.graph.now in
    let settled = subst (λ (item : Item). AreSettled g c.args.limit c.args.table.now (nodes_of g item)) c.in-Group.is c.requires.settled in
    let cost = c.cost_of_nodes.ensures ∙ ap (λ (nodes : List ℕ). min (sum_by (slice_index c.args.table.now) nodes) c.args.limit) c.group.ensures ∙ item_cost-meets g (slice_index c.args.table.now) (cost_of g) c.args.limit (Group c.in-Group.group) settled in
    subst (λ (item : Item). c.cost_of_nodes.result ≡ min (item_cost (cost_of g) g item) c.args.limit) (sym c.in-Group.is) cost
