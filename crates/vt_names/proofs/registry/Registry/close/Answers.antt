use Rattle.std.proofs.Common.{◌∙◌, ap, sym, subst, is_some}
use Rattle.std.specs.Map.{values_of}
use Rattle.vt_names.specs.Registry.{Registered, AreFiled, set_at, without}
use Rattle.vt_names.proofs.SetsByAddress.{filed-removed, values-removed, found-set}
use Rattle.vt_names.proofs.registry.Registry.close.Goals as goal

pub invariant_of-self : goal.invariant_of-self
invariant_of-self c = subst AreFiled (sym c.shift_remove.ensures.entries) (filed-removed c.args.address c.self.inside.sets.entries c.self.invariant)

pub returns-in_default-clause-found : goal.returns-in_default-clause-found
returns-in_default-clause-found c =
    ap is_some (c.in_default.ensures.value ∙ found-set c.args.address c.self.inside.sets.entries c.self.invariant
    ∙ ap (λ (r : Registered). set_at c.args.address r.sets) c.self.view_is)

pub returns-in_default-clause-sets : goal.returns-in_default-clause-sets
returns-in_default-clause-sets c =
    ap values_of c.shift_remove.ensures.entries
    ∙ values-removed c.args.address c.self.inside.sets.entries c.self.invariant c.len-count.ensures.unique
    ∙ ap (λ (r : Registered). without c.args.address r.sets) c.self.view_is

pub invariant_of-self-2 : goal.invariant_of-self-2
invariant_of-self-2 c = subst AreFiled (sym c.shift_remove.ensures.entries) (filed-removed c.args.address c.self.inside.sets.entries c.self.invariant)

pub returns-clause-found : goal.returns-clause-found
returns-clause-found c =
    ap is_some (c.in-Some.ensures.value ∙ found-set c.args.address c.self.inside.sets.entries c.self.invariant
    ∙ ap (λ (r : Registered). set_at c.args.address r.sets) c.self.view_is)

pub returns-clause-sets : goal.returns-clause-sets
returns-clause-sets c =
    ap values_of c.shift_remove.ensures.entries
    ∙ values-removed c.args.address c.self.inside.sets.entries c.self.invariant c.len-count.ensures.unique
    ∙ ap (λ (r : Registered). without c.args.address r.sets) c.self.view_is
