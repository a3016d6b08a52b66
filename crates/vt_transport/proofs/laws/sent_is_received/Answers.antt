use Rattle.vt_transport.proofs.SentMessageIsWhole.{received}
use Rattle.vt_transport.proofs.laws.sent_is_received.Goals as goal

pub returns : goal.returns
returns c = received
