use Rattle.std.proofs.Common.{◌∙◌, ap}
use Rattle.vt_names.specs.Registry.{Registered, set_at}
use Rattle.vt_names.proofs.SetsByAddress.{found-set}
use Rattle.vt_names.proofs.registry.Registry.get.Goals as goal

pub returns : goal.returns
returns c =
    c.get.ensures.value ∙ found-set c.args.address c.self.inside.sets.entries c.self.invariant
    ∙ ap (λ (r : Registered). set_at c.args.address r.sets) c.self.view_is
