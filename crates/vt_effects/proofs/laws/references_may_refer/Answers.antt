use Rattle.vt_effects.proofs.lemmas.objects.KindAndReferences.{references_written}
use Rattle.vt_effects.proofs.laws.references_may_refer.Goals as goal

pub returns : goal.returns
returns c = references_written
