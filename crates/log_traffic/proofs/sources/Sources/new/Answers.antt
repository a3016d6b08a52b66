use Rattle.std.proofs.Common.{rules}
use Rattle.log_traffic.proofs.Senders.{counts_in-none}
use Rattle.log_traffic.proofs.sources.Sources.new.Goals as goal

pub returns-clause-counts : goal.returns-clause-counts
returns-clause-counts c = λ source. counts_in-none 256 c.default.result source (search rules)
