use Rattle.std.proofs.Common.{arith}
use Rattle.vt_rank.proofs.ReachableRows.{closing_begins, closing_more, closed}
use Rattle.vt_rank.proofs.reach.close.Goals as goal

pub loop-via-init : goal.loop-via-init
loop-via-init c = closing_begins c.args.graph.now c.args.rows.now c.requires

pub loop-via-preserved : goal.loop-via-preserved
loop-via-preserved c = closing_more c.args.graph.now _ _ _ c.loop-via.invariant c.join_at.ensures

pub returns : goal.returns
returns c = closed c.args.graph.now c.loop-via.rows c.loop-via.via (omega arith) c.loop-via.invariant
