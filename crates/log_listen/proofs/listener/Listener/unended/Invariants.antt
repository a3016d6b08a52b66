use Rattle.std.proofs.Common.{◌≡◌, ◌++◌, map}
use Rattle.log_listen.specs.Steps.{unended_of}
use Rattle.log_listen.proofs.listener.Listener.unended.Given as goal

abbrev pub invariant-loop-channel : goal.invariant-loop-channel
invariant-loop-channel l =
    l.broken.items ++ map (λ entry. unended_of entry.0 entry.1) l.channel-iterator
    ≡ l.initial.broken.items ++ map (λ entry. unended_of entry.0 entry.1) l.self.transfers.entries
