use Rattle.std.proofs.Common.{◌≡◌, ap, subst, sym}
use Rattle.vt_stores.specs.Stores.{ObjectMap}
use Rattle.vt_machine.specs.SetStates.{IsActive, active_in}
use Rattle.vt_machine.proofs.OneSet.{active_is}
use Rattle.vt_machine.proofs.live.Live.active_mask.Goals as goal

pub returns-clause-mask : goal.returns-clause-mask
returns-clause-mask g c =
    subst (λ (o : ObjectMap). IsActive o c.active_mask.result) (ap (λ s. s.objects) c.self.view_is)
    (c.self.inside.working_set, c.self.invariant.1, sym c.active_mask.ensures)

pub returns-clause-active : goal.returns-clause-active
returns-clause-active g c =
    subst (λ (o : ObjectMap). c.active_mask.result ≡ active_in o) (ap (λ s. s.objects) c.self.view_is)
    (active_is (g.S.Store.contents c.self.inside.store) c.self.inside.working_set c.active_mask.result c.self.invariant.0.working_set c.self.invariant.1 c.active_mask.ensures)
