use Rattle.std.proofs.Common.{ℕ, ap, arith}
use Rattle.vt_rank.specs.NodeSets.{row}
use Rattle.vt_rank.proofs.ReachedNodes.{gathering_begins, gathering_more, gathered}
use Rattle.vt_rank.proofs.gather.with_rows.Goals as goal

pub loop-node-init : goal.loop-node-init
loop-node-init c = gathering_begins _ _ _ _ c.new-set.ensures c.insert_nodes.ensures

pub loop-node-preserved : goal.loop-node-preserved
loop-node-preserved c =
    gathering_more _ _ _ _ _ _ c.loop-node-test.true (ap (λ (k : ℕ). row c.args.rows.now k) c.from.ensures) c.loop-node.invariant c.insert_all.ensures.kept c.insert_all.ensures.there c.insert_all.ensures.only

pub returns : goal.returns
returns c = gathered _ _ _ _ (omega arith) c.loop-node.invariant
