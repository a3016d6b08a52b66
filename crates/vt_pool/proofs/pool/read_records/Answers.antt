use Rattle.std.proofs.Common.{◌-◌, ◌<◌, length, refl, arith, rules}
use Rattle.vt_kinds.specs.Records.{seen}
use Rattle.vt_pool.proofs.Progress.{one_more, faulty_next}
use Rattle.vt_pool.proofs.pool.read_records.Goals as goal

pub loop-rest-preserved : goal.loop-rest-preserved
loop-rest-preserved c =
    let r = c.in-Ok.record in
    record {
      within = omega (arith, c.in-Ok.ensures.shorter, c.loop-rest.invariant.within);
      so_far = one_more c.args.bytes.now c.loop-rest.rest.now r.rest.now c.loop-rest.pool c.put.new.self r.id (seen r.object) c.loop-rest.invariant.so_far c.in-Ok.ensures.record c.in-Ok.ensures.parts c.in_default.ensures.ok;
    }

pub returns-in-Err-clause-fault : goal.returns-in-Err-clause-fault
returns-in-Err-clause-fault c =
    let bytes = c.args.bytes.now in
    let rest = c.loop-rest.rest.now in
    let some : 0 < length rest = search rules in
    rw c.at.ensures (faulty_next bytes rest c.loop-rest.pool (length bytes - length rest) c.in-Err.stop c.loop-rest.invariant.so_far refl some c.in-Err.ensures.fault)
