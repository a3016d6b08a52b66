use Rattle.vt_extended.proofs.Assembly.{agrees}
use Rattle.vt_extended.proofs.laws.steps_assemble_messages.Goals as goal

pub returns : goal.returns
returns c = agrees
