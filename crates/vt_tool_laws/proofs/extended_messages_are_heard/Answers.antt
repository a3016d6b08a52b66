use Rattle.std.proofs.Common.{true}
use Rattle.vt_can.proofs.lemmas.transport.MarkedHistories.{run_whole}
use Rattle.vt_extended.specs.Protocol.{protocol}
use Rattle.vt_extended.specs.Messages.{IsWhole, spelling}
use Rattle.vt_extended.proofs.Assembly.{agrees}
use Rattle.vt_tool_laws.proofs.Histories.{heard}
use Rattle.vt_tool_laws.proofs.Extended.{reading, last}
use Rattle.vt_tool_laws.proofs.extended_messages_are_heard.Goals as goal

pub returns : goal.returns
returns c = heard protocol spelling true reading last (run_whole protocol IsWhole (λ xs x message. (agrees xs x).messages message))
