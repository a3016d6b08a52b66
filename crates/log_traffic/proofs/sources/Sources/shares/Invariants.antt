use Rattle.std.proofs.Common.{◌≡◌, map}
use Rattle.std.specs.List.{range_with_len}
use Rattle.log_traffic.specs.Shares.{share_of, senders_among}
use Rattle.log_traffic.proofs.sources.Sources.shares.Given as goal

abbrev pub invariant-loop-source : goal.invariant-loop-source
invariant-loop-source l =
    l.shares.items ≡ map (share_of l.microseconds l.self.counts) (senders_among l.self.counts (range_with_len 0 l.source))
