use Rattle.vt_verify.proofs.lemmas.rules.Acceptance.{greater_accept}
use Rattle.vt_verify.proofs.laws.greater_limits_accept.Goals as goal

pub returns : goal.returns
returns c = greater_accept
