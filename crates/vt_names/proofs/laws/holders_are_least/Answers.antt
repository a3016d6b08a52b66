use Rattle.vt_names.proofs.HoldersAfterClaims.{least}
use Rattle.vt_names.proofs.laws.holders_are_least.Goals as goal

pub returns : goal.returns
returns c = least
