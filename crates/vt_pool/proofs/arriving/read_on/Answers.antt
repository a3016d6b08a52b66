use Rattle.vt_pool.proofs.ReadPosition.{were_faulty}
use Rattle.vt_pool.proofs.arriving.read_on.Goals as goal

pub returns-in-Some : goal.returns-in-Some
returns-in-Some c =
    let were = rw c.in-Some.is at c.requires in
    rw c.in-Some.is (were_faulty c.args.pool.now c.args.whole c.in-Some.field-0 were)
