use Rattle.vt_server.specs.States.{state_of}
use Rattle.vt_server.proofs.lemmas.message.MessageCalls.{none-handled}
use Rattle.vt_server.proofs.terminal.Terminal.take_whole.Goals as goal

pub returns-in_err-message-clause-handles : goal.returns-in_err-message-clause-handles
returns-in_err-message-clause-handles c = rw (c.from_residual.ensures, c.in_err-message.was) (none-handled (state_of c.args.self.now) c.args.source)
