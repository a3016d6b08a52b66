use Rattle.vt_tool_laws.proofs.OneMessage.{messages_one}
use Rattle.vt_tool_laws.proofs.messages_are_one.Goals as goal

pub returns : goal.returns
returns c = messages_one
