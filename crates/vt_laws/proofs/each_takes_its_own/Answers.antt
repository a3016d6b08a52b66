use Rattle.vt_laws.proofs.lemmas.views.ViewsAfterSteps.{each}
use Rattle.vt_laws.proofs.each_takes_its_own.Goals as goal

pub returns : goal.returns
returns c = each (record {
  holders = c.other_holders_stay.ensures;
  tp = c.steps_are_timeless.ensures;
  etp = c.steps_are_timeless-2.ensures;
  sender = c.answers_are_timeless.ensures;
})
