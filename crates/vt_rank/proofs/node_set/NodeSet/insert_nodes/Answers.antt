use Rattle.std.proofs.Common.{subst}
use Rattle.vt_rank.specs.NodeSets.{Adds}
use Rattle.vt_rank.proofs.SetsAfterInsertions.{adding_more, adding_done, one_by_one}
use Rattle.vt_rank.proofs.node_set.NodeSet.insert_nodes.Goals as goal

pub loop-node-preserved : goal.loop-node-preserved
loop-node-preserved c = adding_more _ _ _ 0 _ _ _ c.loop-node-test.true c.loop-node.invariant c.insert.ensures

pub returns : goal.returns
returns c =
    subst (Adds c.args.self.now c.loop-node.self) (one_by_one c.args.nodes.now) (adding_done _ _ _ _ _ c.loop-node-test.false c.loop-node.invariant)
