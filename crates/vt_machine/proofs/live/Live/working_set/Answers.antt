use Rattle.std.proofs.Common.{◌≡◌, ap, subst}
use Rattle.vt_stores.specs.Stores.{ObjectMap}
use Rattle.vt_machine.specs.SetStates.{working_set_in}
use Rattle.vt_machine.proofs.OneSet.{set_is}
use Rattle.vt_machine.proofs.live.Live.working_set.Goals as goal

pub returns-clause-set : goal.returns-clause-set
returns-clause-set g c =
    subst (λ (o : ObjectMap). c.self.inside.working_set ≡ working_set_in o) (ap (λ s. s.objects) c.self.view_is)
    (set_is (g.S.Store.contents c.self.inside.store) c.self.inside.working_set c.self.invariant.0.working_set c.self.invariant.1)
