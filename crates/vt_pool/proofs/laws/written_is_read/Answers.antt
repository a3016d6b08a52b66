use Rattle.vt_pool.proofs.RoundTrip.{written_read}
use Rattle.vt_pool.proofs.laws.written_is_read.Goals as goal

pub returns : goal.returns
returns c = written_read
