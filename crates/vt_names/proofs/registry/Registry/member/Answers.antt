use Rattle.std.proofs.Common.{◌≡◌, Ok, Err, IfSome, cond, sym, ap, subst, ◌∙◌}
use Rattle.std.specs.Map.{values_of}
use Rattle.vt_names.specs.Registry.{Set, Registered, AreFiled, joining, has_place}
use Rattle.vt_names.specs.declared.registry.RegistryFault.TheVariants as declared
use Rattle.vt_names.proofs.AddressesAfterClaim.{none-some}
use Rattle.vt_names.proofs.SetsByAddress.{set-there, set-absent, written-filed, joined-address, joined-sets}
use Rattle.vt_names.proofs.registry.Registry.member.Goals as goal

pub returns-in_default-clause-set : goal.returns-in_default-clause-set
returns-in_default-clause-set c =
    let sets = λ (r : Registered). r.sets in
    let none = set-absent c.args.address c.self.inside.sets.entries c.args.self.now c.self.invariant (ap sets c.self.view_is) c.in_default.ensures.value in
    subst (λ o. IfSome o (λ (set : Set). Err declared.NotMaster ≡ cond (has_place set) (Ok tt) (Err declared.TooManyMembers))) (sym none) tt

pub returns-in_default-clause-sets : goal.returns-in_default-clause-sets
returns-in_default-clause-sets c =
    let sets = λ (r : Registered). r.sets in
    let none = set-absent c.args.address c.self.inside.sets.entries c.args.self.now c.self.invariant (ap sets c.self.view_is) c.in_default.ensures.value in
    ap (λ m. values_of m.entries) c.get_mut.follows.holds-at-none ∙ ap sets c.self.view_is
    ∙ sym (ap (λ o. joining o c.args.name c.args.self.now.sets) none)

pub invariant_of-self-then-not-join : goal.invariant_of-self-then-not-join
invariant_of-self-then-not-join c =
    let sets = λ (r : Registered). r.sets in
    subst AreFiled (sym (c.get_mut.follows.holds c.join.new.self).0)
    (written-filed c.args.address c.self.inside.sets.entries c.args.self.now c.self.invariant (ap sets c.self.view_is)
    c.in-Some.set.now c.join.new.self c.in-Some.ensures.value
    (joined-address c.args.address c.self.inside.sets.entries c.args.self.now c.self.invariant (ap sets c.self.view_is) c.in-Some.set.now c.join.new.self c.args.name c.join.ensures.set))

pub returns-then-not-join-clause-no_set : goal.returns-then-not-join-clause-no_set
returns-then-not-join-clause-no_set c none =
    none-some (sym none ∙ set-there c.args.address c.self.inside.sets.entries c.args.self.now c.self.invariant (ap (λ (r : Registered). r.sets) c.self.view_is) c.in-Some.set.now c.in-Some.ensures.value)

pub returns-then-not-join-clause-set : goal.returns-then-not-join-clause-set
returns-then-not-join-clause-set c =
    let there = set-there c.args.address c.self.inside.sets.entries c.args.self.now c.self.invariant (ap (λ (r : Registered). r.sets) c.self.view_is) c.in-Some.set.now c.in-Some.ensures.value in
    subst (λ o. IfSome o (λ (set : Set). Err declared.TooManyMembers ≡ cond (has_place set) (Ok tt) (Err declared.TooManyMembers))) (sym there)
    (ap (λ b. cond b (Ok tt) (Err declared.TooManyMembers)) c.if-not-join.ensures.place)

pub returns-then-not-join-clause-sets : goal.returns-then-not-join-clause-sets
returns-then-not-join-clause-sets c =
    ap values_of (c.get_mut.follows.holds c.join.new.self).0
    ∙ joined-sets c.args.address c.self.inside.sets.entries c.args.self.now c.self.invariant (ap (λ (r : Registered). r.sets) c.self.view_is)
    c.in-Some.set.now c.join.new.self c.args.name c.in-Some.ensures.value c.join.ensures.set

pub invariant_of-self-2 : goal.invariant_of-self-2
invariant_of-self-2 c =
    let sets = λ (r : Registered). r.sets in
    subst AreFiled (sym (c.get_mut.follows.holds c.join.new.self).0)
    (written-filed c.args.address c.self.inside.sets.entries c.args.self.now c.self.invariant (ap sets c.self.view_is)
    c.in-Some.set.now c.join.new.self c.in-Some.ensures.value
    (joined-address c.args.address c.self.inside.sets.entries c.args.self.now c.self.invariant (ap sets c.self.view_is) c.in-Some.set.now c.join.new.self c.args.name c.join.ensures.set))

pub returns-clause-no_set : goal.returns-clause-no_set
returns-clause-no_set c none =
    none-some (sym none ∙ set-there c.args.address c.self.inside.sets.entries c.args.self.now c.self.invariant (ap (λ (r : Registered). r.sets) c.self.view_is) c.in-Some.set.now c.in-Some.ensures.value)

pub returns-clause-set : goal.returns-clause-set
returns-clause-set c =
    let there = set-there c.args.address c.self.inside.sets.entries c.args.self.now c.self.invariant (ap (λ (r : Registered). r.sets) c.self.view_is) c.in-Some.set.now c.in-Some.ensures.value in
    subst (λ o. IfSome o (λ (set : Set). Ok tt ≡ cond (has_place set) (Ok tt) (Err declared.TooManyMembers))) (sym there)
    (ap (λ b. cond b (Ok tt) (Err declared.TooManyMembers)) c.if-not-join.ensures.place)

pub returns-clause-sets : goal.returns-clause-sets
returns-clause-sets c =
    ap values_of (c.get_mut.follows.holds c.join.new.self).0
    ∙ joined-sets c.args.address c.self.inside.sets.entries c.args.self.now c.self.invariant (ap (λ (r : Registered). r.sets) c.self.view_is)
    c.in-Some.set.now c.join.new.self c.args.name c.in-Some.ensures.value c.join.ensures.set
