use Rattle.vt_can.proofs.lemmas.transport.Runs.{run_messages}
use Rattle.vt_extended.specs.Protocol.{protocol}
use Rattle.vt_extended.proofs.laws.runs_hand_out_messages.Goals as goal

pub returns : goal.returns
returns c = run_messages protocol
