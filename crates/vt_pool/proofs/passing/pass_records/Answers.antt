use Rattle.std.proofs.Common.{arith}
use Rattle.vt_pool.proofs.ReadPosition.{next_whole, all_whole, stops_there}
use Rattle.vt_pool.proofs.passing.pass_records.Goals as goal

pub loop-at-preserved : goal.loop-at-preserved
loop-at-preserved c = next_whole c.args.pool.now c.loop-at.at c.in-Ok.place (λ i. omega (arith, c.type_inv.pool i)) c.loop-at.invariant c.in-Ok.ensures.passes

pub returns-in-Err : goal.returns-in-Err
returns-in-Err c = rw c.lasting.ensures (stops_there c.args.pool.now c.loop-at.at c.in-Err.fault (λ i. omega (arith, c.type_inv.pool i)) c.loop-at.invariant c.loop-at-test.true c.in-Err.ensures.passes)

pub returns : goal.returns
returns c = all_whole c.args.pool.now c.loop-at.at c.loop-at.invariant c.loop-at-test.false
