use Rattle.vt_dialogs.proofs.RawValues.{one_raw}
use Rattle.vt_dialogs.proofs.laws.raw_is_one.Goals as goal

pub returns : goal.returns
returns c = one_raw
