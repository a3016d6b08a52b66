use Rattle.std.proofs.Common.{◌≡◌, length, arith, rules}
use Rattle.vt_rank.proofs.ReachableRows.{rows_joined}
use Rattle.vt_rank.proofs.reach.join_at.Goals as goal

pub returns : goal.returns
returns c =
    let size : length c.args.rows.now ≡ 256 = search rules in
    rows_joined _ _ _ c.loop-node.node size (omega arith) c.loop-node.invariant
