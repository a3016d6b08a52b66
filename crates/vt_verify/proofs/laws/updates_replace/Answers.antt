use Rattle.vt_verify.proofs.lemmas.stores.UpdatedStore.{replaces}
use Rattle.vt_verify.proofs.laws.updates_replace.Goals as goal

pub returns : goal.returns
returns c = replaces
