use Rattle.std.proofs.Common.{refl, sym, ap, ◌∙◌, arith}
use Rattle.std.specs.FinMap as finite
use Rattle.vt_can.specs.transport.Sessions.{SessionTable}
use Rattle.vt_can.proofs.lemmas.transport.Places.{not_overdue, of_addresses, map_in}
use Rattle.vt_can.proofs.transport.sessions.Sessions.expire.Goals as goal

pub returns-then-saturating_sub-self-clause-none :
    goal.returns-then-saturating_sub-self-clause-none
returns-then-saturating_sub-self-clause-none g c =
    record { none = not_overdue _ _ _ _ _ c.self.invariant (omega arith) c.self.view_is; stay = refl }

pub returns-clause-some : goal.returns-clause-some
returns-clause-some g c = record {
  small = omega arith;
  last = c.in_ok-timed.timed.last;
  found = ap (λ (t : SessionTable _). finite.get t.sessions c.in_ok-address.address) (sym c.first_overdue.ensures.same) ∙ sym c.in_ok-timed.ensures.found;
  first = c.in_ok-address.ensures.some;
  removed = ap (λ (t : SessionTable _). t.sessions) c.take.ensures.left ∙ ap (λ (t : SessionTable _). finite.remove t.sessions c.in_ok-address.address) c.first_overdue.ensures.same;
}

pub returns-then-saturating_sub-self-clause-addresses :
    goal.returns-then-saturating_sub-self-clause-addresses
returns-then-saturating_sub-self-clause-addresses g c = of_addresses _ _ _ c.self.invariant (map_in _ _ c.self.view_is)

pub returns-in_err-address-clause-addresses : goal.returns-in_err-address-clause-addresses
returns-in_err-address-clause-addresses g c = of_addresses _ _ _ c.self.invariant (map_in _ _ c.self.view_is)

pub returns-clause-addresses : goal.returns-clause-addresses
returns-clause-addresses g c = of_addresses _ _ _ c.self.invariant (map_in _ _ c.self.view_is)
