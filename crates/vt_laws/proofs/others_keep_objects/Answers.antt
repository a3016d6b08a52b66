use Rattle.vt_laws.proofs.lemmas.pools.FramesOfOthers.{others-keep}
use Rattle.vt_laws.proofs.others_keep_objects.Goals as goal

pub returns : goal.returns
returns c = others-keep c.runs_are_of_steps.ensures
