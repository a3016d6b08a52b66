use Rattle.vt_can.proofs.lemmas.transport.OneSource.{same_messages}
use Rattle.vt_transport.specs.Protocol.{protocol}
use Rattle.vt_transport.proofs.laws.messages_depend_on_their_source.Goals as goal

pub returns : goal.returns
returns c = same_messages protocol
