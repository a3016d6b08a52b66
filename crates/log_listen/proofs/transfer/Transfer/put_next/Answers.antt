use Rattle.std.proofs.Common.{◌∙◌, sym, ap, arith}
use Rattle.log_listen.specs.Transfers.{packet_count}
use Rattle.log_listen.proofs.Places.{has_all, none_in_empty, first_appended, next_appended, stopped}
use Rattle.log_listen.proofs.transfer.Transfer.put_next.Goals as goal

pub loop-self-init : goal.loop-self-init
loop-self-init c = record {
  size = c.append.ensures.size;
  pgn = c.append.ensures.pgn;
  holds = λ number since has here.
      first_appended number c.args.packet.now since c.args.self.now c.append.new.self has c.append.ensures.size c.in_ok-append.ensures.appended here c.requires;
}

pub loop-self-preserved : goal.loop-self-preserved
loop-self-preserved c = record {
  size = c.append-in-loop-self.ensures.size ∙ c.loop-self.invariant.size;
  pgn = c.append-in-loop-self.ensures.pgn ∙ c.loop-self.invariant.pgn;
  holds = λ number since has here. let size = ap packet_count c.loop-self.invariant.size in
      next_appended _ c.in-Some.next c.loop-self.self c.append-in-loop-self.new.self c.remove.new.self (c.loop-self.invariant.holds number since has here)
      (omega (arith, size, c.if-self-count.true, c.packet_count-count.ensures)) (sym c.remove.ensures.value ∙ c.in-Some.is) c.remove.ensures.updates c.append-in-loop-self.ensures.size c.in_ok-append-2.ensures.appended;
}

pub returns-else-self-count-clause-packets : goal.returns-else-self-count-clause-packets
returns-else-self-count-clause-packets c = λ number since has here.
    has_all _ c.loop-self.self (c.loop-self.invariant.holds number since has here) (λ upto. absurd (omega arith))

pub returns-after-loop-self-clause-packets : goal.returns-after-loop-self-clause-packets
returns-after-loop-self-clause-packets c = λ number since has here.
    has_all _ c.loop-self.self (c.loop-self.invariant.holds number since has here) (λ upto. none_in_empty c.loop-self.self.beyond c.loop-self.self.missing (c.is_empty.ensures.0 c.loop-self-test.false))

pub returns-in_default-clause-packets : goal.returns-in_default-clause-packets
returns-in_default-clause-packets c = λ number since has here.
    stopped _ c.loop-self.self c.remove.new.self (c.loop-self.invariant.holds number since has here)
    (sym c.remove.ensures.value ∙ c.in_default.is) c.in_default.ensures.unchanged
