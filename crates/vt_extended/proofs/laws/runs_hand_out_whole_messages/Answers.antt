use Rattle.vt_can.proofs.lemmas.transport.MarkedHistories.{sessions_same, run_whole}
use Rattle.vt_extended.specs.Protocol.{protocol}
use Rattle.vt_extended.specs.Messages.{IsWhole}
use Rattle.vt_extended.proofs.Assembly.{agrees}
use Rattle.vt_extended.proofs.laws.runs_hand_out_whole_messages.Goals as goal

pub returns-clause-sessions : goal.returns-clause-sessions
returns-clause-sessions c = sessions_same protocol

pub returns-clause-messages : goal.returns-clause-messages
returns-clause-messages c = run_whole protocol IsWhole (λ xs x message. (agrees xs x).messages message)
