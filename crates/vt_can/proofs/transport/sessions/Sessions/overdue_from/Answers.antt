use Rattle.std.proofs.Common.{None, ◌+◌, ap, sym, subst, ◌∙◌, arith}
use Rattle.std.proofs.lemmas.List.{get_or_default}
use Rattle.vt_can.specs.transport.FirstTimes.{IsFirstTime}
use Rattle.vt_can.specs.transport.Sessions.{table_of_places}
use Rattle.vt_can.proofs.lemmas.transport.FirstTimes.{SomeOverdueBelow, first_more, first_of_all}
use Rattle.vt_can.proofs.transport.sessions.Sessions.overdue_from.Goals as goal

pub loop-place-preserved : goal.loop-place-preserved
loop-place-preserved g c =
    let read = c.place-item.is ∙ get_or_default c.deref-place-items.result.now c.loop-place.place-index c.place-item.result None (omega arith) in
    subst (IsFirstTime (SomeOverdueBelow c.self.inside.timeout c.deref-place-items.result.now (c.loop-place.place-index + 1))) (sym c.earlier-first.ensures)
    (first_more _ _ _ _ _ _ read c.loop-place.invariant c.overdue_from.ensures)

pub returns : goal.returns
returns g c =
    first_of_all _ _ c.loop-place.place-index _ _ (omega arith) (ap (table_of_places _) c.deref-place-items.ensures.value ∙ c.self.view_is) c.loop-place.invariant
