use Rattle.std.proofs.Common.{false}
use Rattle.vt_can.proofs.lemmas.transport.MarkedHistories.{run_whole}
use Rattle.vt_transport.specs.Protocol.{protocol}
use Rattle.vt_transport.specs.Messages.{IsWhole, spelling}
use Rattle.vt_transport.proofs.Agreement.{agrees}
use Rattle.vt_tool_laws.proofs.Histories.{heard}
use Rattle.vt_tool_laws.proofs.Transport.{reading, last}
use Rattle.vt_tool_laws.proofs.transport_messages_are_heard.Goals as goal

pub returns : goal.returns
returns c = heard protocol spelling false reading last (run_whole protocol IsWhole (λ xs x message. (agrees xs x).messages message))
