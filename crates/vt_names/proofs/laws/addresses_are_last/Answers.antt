use Rattle.vt_names.proofs.HoldersAfterClaims.{last}
use Rattle.vt_names.proofs.laws.addresses_are_last.Goals as goal

pub returns : goal.returns
returns c = last
