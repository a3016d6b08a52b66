use Rattle.std.proofs.Common.{◌≡◌, ◌≤◌, inr, length, ap, subst, ◌∙◌, arith}
use Rattle.vt_stores.specs.Stores.{ObjectMap}
use Rattle.vt_chains.specs.Depths.{ids_of}
use Rattle.vt_chains.proofs.IdIndices.{count_is}
use Rattle.vt_machine.proofs.live.Live.sought.Goals as goal

pub returns-then-self : goal.returns-then-self
returns-then-self g c =
    let m = g.S.Store.contents c.self.inside.store in
    let is : c.count.result ≡ length (ids_of m) = c.count.ensures.count ∙ count_is m in
    inr (subst (λ (o : ObjectMap). length (ids_of o) ≤ c.count.result) (ap (λ s. s.objects) c.self.view_is) (omega (arith, is)))
