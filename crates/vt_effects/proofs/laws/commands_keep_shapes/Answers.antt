use Rattle.vt_effects.proofs.lemmas.stores.SameShape.{shapes_stay}
use Rattle.vt_effects.proofs.laws.commands_keep_shapes.Goals as goal

pub returns : goal.returns
returns c = shapes_stay
