use Rattle.vt_transport.proofs.StepsWithoutTimes.{timeless_answers}
use Rattle.vt_transport.proofs.laws.answers_are_timeless.Goals as goal

pub returns : goal.returns
returns c = timeless_answers
