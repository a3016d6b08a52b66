use Rattle.vt_names.proofs.HoldersAfterClaims.{stay}
use Rattle.vt_names.proofs.laws.other_holders_stay.Goals as goal

pub returns : goal.returns
returns c = stay
