use Rattle.std.proofs.Common.{◌∙◌, slice_index}
use Rattle.vt_rank.specs.declared.graph.Item.TheVariants.{Most}
use Rattle.vt_rank.specs.Costs.{cost_of}
use Rattle.vt_rank.proofs.Totals.{item_cost-meets}
use Rattle.vt_rank.proofs.table.cost_of_most_once.Goals as goal

pub returns-clause-cost : goal.returns-clause-cost
returns-clause-cost c =
    c.cost_of_most-cost.ensures ∙ item_cost-meets c.args.graph.now (slice_index c.args.table.now) (cost_of c.args.graph.now) c.args.limit Most c.requires.settled

pub returns-clause-most : goal.returns-clause-most
returns-clause-most c =
    c.cost_of_most-cost.ensures ∙ item_cost-meets c.args.graph.now (slice_index c.args.table.now) (cost_of c.args.graph.now) c.args.limit Most c.requires.settled
