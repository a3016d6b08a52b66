use Rattle.vt_pool.proofs.JoinedRecords.{only_want}
use Rattle.vt_pool.proofs.pool.read_pool.Goals as goal

pub returns-clause-only : goal.returns-clause-only
returns-clause-only c = λ records are parts. only_want c.args.bytes.now c.read_records.result records are parts c.read_records.ensures.fault
