use Rattle.std.proofs.Common.{◌∙◌, ap, sym, subst, ℕ}
use Rattle.std.specs.Map.{values_of}
use Rattle.vt_names.specs.Registry.{Set, Registered, AreFiled, set_at, mastered, registering, with_set}
use Rattle.vt_names.proofs.AddressesAfterClaim.{if-none, if-each}
use Rattle.vt_names.proofs.SetsByAddress.{set-there, set-absent, set_at-address, written-filed, written-sets}
use Rattle.vt_names.proofs.registry.Registry.master.Goals as goal

pub invariant_of-self : goal.invariant_of-self
invariant_of-self c =
    subst AreFiled (sym (c.get_mut.follows.holds c.restart.new.self).0)
    (written-filed c.args.address c.self.inside.sets.entries c.args.self.now c.self.invariant (ap (λ (r : Registered). r.sets) c.self.view_is)
    c.in-Some-get_mut.set.now c.restart.new.self c.in-Some-get_mut.ensures.value (ap (λ (s : Set). s.address) c.restart.ensures))

pub returns-in-Some-get_mut-clause-sets : goal.returns-in-Some-get_mut-clause-sets
returns-in-Some-get_mut-clause-sets c =
    let view = ap (λ (r : Registered). r.sets) c.self.view_is in
    let there = set-there c.args.address c.self.inside.sets.entries c.args.self.now c.self.invariant view c.in-Some-get_mut.set.now c.in-Some-get_mut.ensures.value in
    λ _.
    ap values_of (c.get_mut.follows.holds c.restart.new.self).0
    ∙ written-sets c.args.address c.self.inside.sets.entries c.args.self.now c.self.invariant view
    c.in-Some-get_mut.set.now c.restart.new.self c.in-Some-get_mut.ensures.value (ap (λ (s : Set). s.address) c.restart.ensures)
    ∙ ap (λ (s : Set). with_set s c.args.self.now.sets)
    (c.restart.ensures ∙ ap (λ (a : ℕ). mastered a c.in-Some.name c.args.count) (set_at-address c.args.address c.in-Some-get_mut.set.now c.args.self.now.sets there))
    ∙ sym (ap (λ o. registering c.args.address o c.args.count c.args.self.now.sets) c.in-Some.is)

pub returns-clause-there : goal.returns-clause-there
returns-clause-there c =
    let none = set-absent c.args.address c.self.inside.sets.entries c.args.self.now c.self.invariant (ap (λ (r : Registered). r.sets) c.self.view_is) c.in_default-get_mut.ensures.value in
    if-each _ c.args.holder (λ _. if-none _ (set_at c.args.address c.args.self.now.sets) none)
