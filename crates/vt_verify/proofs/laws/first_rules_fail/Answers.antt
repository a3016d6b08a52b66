use Rattle.vt_verify.proofs.lemmas.rules.NoRefusal.{first_rules_fail}
use Rattle.vt_verify.proofs.laws.first_rules_fail.Goals as goal

pub returns : goal.returns
returns c = first_rules_fail
