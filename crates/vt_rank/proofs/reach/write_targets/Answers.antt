use Rattle.std.proofs.Common.{arith}
use Rattle.vt_rank.proofs.ReachableRows.{row_written, rows_written}
use Rattle.vt_rank.proofs.reach.write_targets.Goals as goal

pub loop-node-preserved : goal.loop-node-preserved
loop-node-preserved c = row_written _ _ _ _ (omega arith) c.loop-node.invariant c.targets.ensures

pub returns : goal.returns
returns c = rows_written _ _ _ (omega arith) c.loop-node.invariant
