use Rattle.vt_laws.proofs.lemmas.sets.SetsAfterStep.{after-steps}
use Rattle.vt_laws.proofs.sets_after_steps.Goals as goal

pub returns : goal.returns
returns c = after-steps (record {
  holders = c.other_holders_stay.ensures;
  tp = c.steps_are_timeless.ensures;
  etp = c.steps_are_timeless-2.ensures;
  sender = c.answers_are_timeless.ensures;
})
