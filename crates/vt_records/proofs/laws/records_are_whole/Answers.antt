use Rattle.vt_records.proofs.ReadInvertsWrite.{are_whole}
use Rattle.vt_records.proofs.laws.records_are_whole.Goals as goal

pub returns : goal.returns
returns c = are_whole
