use Rattle.std.proofs.Common.{◌∙◌}
use Rattle.log_listen.proofs.Places.{whole_bytes}
use Rattle.log_listen.proofs.transfer.Transfer.into_bytes.Goals as goal

pub returns : goal.returns
returns c = λ since packets has all. c.truncate.ensures.items ∙ whole_bytes since c.args.self packets has all
