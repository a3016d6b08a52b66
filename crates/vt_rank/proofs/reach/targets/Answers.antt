use Rattle.std.proofs.Common.{subst, List}
use Rattle.std.specs.List.{flat_map}
use Rattle.vt_rank.specs.declared.graph.Item.{Item}
use Rattle.vt_rank.specs.declared.graph.Item.TheVariants.{Step}
use Rattle.vt_rank.specs.Graphs.{nodes_of}
use Rattle.vt_rank.specs.NodeSets.{IsSetOf}
use Rattle.vt_rank.proofs.SetsAfterInsertions.{adding_more, adding_done, set_of}
use Rattle.vt_rank.proofs.reach.targets.Goals as goal

pub loop-item-preserved : goal.loop-item-preserved
loop-item-preserved c = adding_more _ _ _ Step _ _ _ c.loop-item-test.true c.loop-item.invariant c.insert_targets.ensures

pub returns : goal.returns
returns c =
    let all = set_of c.new-targets.result c.loop-item.targets _ c.new-targets.ensures (adding_done _ _ _ _ _ c.loop-item-test.false c.loop-item.invariant) in
    subst (λ (items : List Item). IsSetOf c.loop-item.targets (flat_map (nodes_of c.args.graph.now) items)) c.items-item-items.ensures all
