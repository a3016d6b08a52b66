use Rattle.std.proofs.Common.{◌+◌, ◌-◌, ◌≡◌, ℕ, List, ◌∷◌}
use Rattle.log_listen.specs.declared.part.Part.{Part}
use Rattle.log_listen.specs.declared.part.Part.TheVariants.{Packet}
use Rattle.log_listen.specs.Transfers.{offset_after}
use Rattle.log_listen.specs.Steps.{HasPackets}
use Rattle.log_listen.proofs.Places.{Holds}
use Rattle.log_listen.proofs.transfer.Transfer.put_next.Given as goal

-- the packets up to the first missing place are there, and that place may have one still
abbrev pub invariant-loop-self : goal.invariant-loop-self
invariant-loop-self l = record {
  size : l.self.size ≡ l.fn.self.size;
  pgn : l.self.pgn ≡ l.fn.self.pgn;
  holds : (number : ℕ) (since : List Part) → HasPackets since l.fn.self → offset_after since + number ≡ l.fn.self.missing
      → Holds (Packet number l.fn.packet ∷ since) l.self;
}

abbrev pub decreases-loop-self : goal.decreases-loop-self
decreases-loop-self l = l.count + 1 - l.self.missing
