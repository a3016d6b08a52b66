use Rattle.std.proofs.Common.{length}
use Rattle.log_times.proofs.open_requests.OpenRequests.expire.Given as goal

abbrev pub decreases-loop-asked : goal.decreases-loop-asked
decreases-loop-asked l = length l.self.times.items
