use Rattle.vt_laws.proofs.lemmas.views.HappeningsDecideView.{decide}
use Rattle.vt_laws.proofs.own_happenings_decide.Goals as goal

pub returns : goal.returns
returns c =
    decide
    (record {
      holders = c.other_holders_stay.ensures;
      tp = c.steps_are_timeless.ensures;
      etp = c.steps_are_timeless-2.ensures;
      sender = c.answers_are_timeless.ensures;
    })
    (record {
      readings = c.readings_are_one.ensures;
      refused = c.refusals_are_one.ensures;
      accepted = c.refusals_are_true.ensures;
    })
