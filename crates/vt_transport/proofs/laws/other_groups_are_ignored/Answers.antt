use Rattle.vt_transport.proofs.StepsWithoutTimes.{ignored, unanswered_groups}
use Rattle.vt_transport.proofs.laws.other_groups_are_ignored.Goals as goal

pub returns-clause-receiver : goal.returns-clause-receiver
returns-clause-receiver c = ignored

pub returns-clause-sender : goal.returns-clause-sender
returns-clause-sender c = unanswered_groups
