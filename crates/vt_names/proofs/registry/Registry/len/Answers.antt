use Rattle.std.proofs.Common.{subst}
use Rattle.vt_names.specs.Registry.{Registered, AreApart}
use Rattle.vt_names.proofs.SetsByAddress.{apart-values}
use Rattle.vt_names.proofs.registry.Registry.len.Goals as goal

pub returns-clause-apart : goal.returns-clause-apart
returns-clause-apart c =
    subst (λ (r : Registered). AreApart r.sets) c.self.view_is (apart-values c.self.inside.sets.entries c.self.invariant c.len.ensures.unique)
