use Rattle.vt_transport.proofs.Agreement.{agrees}
use Rattle.vt_transport.proofs.laws.steps_assemble_messages.Goals as goal

pub returns : goal.returns
returns c = agrees
