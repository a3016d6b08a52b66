use Rattle.vt_effects.proofs.lemmas.objects.KindAndReferences.{changes_keep}
use Rattle.vt_effects.proofs.laws.changes_keep.Goals as goal

pub returns : goal.returns
returns c = changes_keep
