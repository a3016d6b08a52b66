use Rattle.std.proofs.Common.{◌≡◌, ◌<◌, length, ap, ◌∙◌, refl, arith}
use Rattle.vt_can.specs.declared.transport.sessions.Timed.{Timed}
use Rattle.vt_can.specs.transport.Sessions.{map_of_places, table_of_places, is_overdue}
use Rattle.vt_can.proofs.lemmas.transport.Places.{none_overdue_more, none_overdue, first_overdue_at, bound_more, bound_all, ArePlaces-bound, map_in}
use Rattle.vt_can.proofs.transport.sessions.Sessions.first_overdue.Goals as goal
use Rattle.vt_can.proofs.transport.sessions.Sessions.first_overdue.Goals.{in-Some, in_default}

pub loop-address-preserved : goal.loop-address-preserved
loop-address-preserved g c =
    let within : c.loop-address.address < length c.deref-place-items.result.now = omega arith in
    record {
      fresh = none_overdue_more _ _ _ _ _ _ c.loop-address.invariant.fresh within (c.overdue.ensures ∙ ap (is_overdue c.self.inside.timeout c.args.now) c.place-item.is) c.if-overdue.false;
      bound = elim c.match-place.branch [
        | in-Some w ↦ bound_more _ _ _ _ _ c.loop-address.invariant.bound within c.place-item.is (omega arith) (λ timed is.
            let same : w.in-Some.timed ≡ timed = cc in
            let last : w.in-Some.timed.last ≡ timed.last = ap (λ (t : Timed _). t.last) same in
            omega arith)
        | in_default w ↦ bound_more _ _ _ _ _ c.loop-address.invariant.bound within c.place-item.is (omega arith) (λ timed is. absurd (w.in_default.not-Some timed is))
      ];
    }

pub returns-then-overdue-clause-some : goal.returns-then-overdue-clause-some
returns-then-overdue-clause-some g c =
    let within : c.loop-address.address < length c.deref-place-items.result.now = omega arith in
    first_overdue_at _ _ _ _ _ _ _ _ c.loop-address.invariant.fresh within (c.overdue.ensures ∙ ap (is_overdue c.self.inside.timeout c.args.now) c.place-item.is) c.if-overdue.true (ap (table_of_places _) c.deref-place-items.ensures.value ∙ c.self.view_is) refl

pub invariant_of-self : goal.invariant_of-self
invariant_of-self g c =
    ArePlaces-bound _ _ _ _ c.self.invariant (map_in _ _ c.self.view_is)
    (bound_all c.deref-place-items.result.now _ _ _ c.loop-address.invariant.bound (omega arith) (ap (map_of_places 0) c.deref-place-items.ensures.value ∙ map_in _ _ c.self.view_is))

pub returns-clause-none : goal.returns-clause-none
returns-clause-none g c =
    none_overdue _ c.deref-place-items.result.now _ _ _ c.loop-address.invariant.fresh (omega arith) (ap (table_of_places _) c.deref-place-items.ensures.value ∙ c.self.view_is)
