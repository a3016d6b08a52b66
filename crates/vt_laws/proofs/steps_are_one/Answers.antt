use Rattle.vt_laws.proofs.lemmas.judgements.OneStep.{steps-one}
use Rattle.vt_laws.proofs.steps_are_one.Goals as goal

pub returns : goal.returns
returns c = steps-one (record {
  readings = c.readings_are_one.ensures;
  refused = c.refusals_are_one.ensures;
  accepted = c.refusals_are_true.ensures;
})
