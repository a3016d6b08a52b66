use Rattle.std.proofs.Common.{sym, ap, subst, ◌∙◌}
use Rattle.std.specs.Map.{values_of}
use Rattle.vt_names.specs.Registry.{Set, Registered, AreFiled, binding}
use Rattle.vt_names.proofs.SetsByAddress.{set-absent, written-filed, bound-sets}
use Rattle.vt_names.specs.declared.registry.Registry.TheInside.{Inside}
use Rattle.vt_names.proofs.registry.Registry.bind.Goals.{in-Some, in_default}
use Rattle.vt_names.proofs.registry.Registry.bind.Goals as goal

pub invariant_of-self : goal.invariant_of-self
invariant_of-self c =
    let sets = λ (r : Registered). r.sets in
    elim c.match-get_mut.branch [
      | in-Some w ↦
          subst (λ (i : Inside). AreFiled i.sets.entries) (sym w.self-inside-is)
          (subst AreFiled (sym (c.get_mut.follows.holds w.bind.new.self).0)
          (written-filed c.args.address c.self.inside.sets.entries c.args.self.now c.self.invariant (ap sets c.self.view_is)
          w.in-Some.set.now w.bind.new.self w.in-Some.ensures.value (ap (λ (s : Set). s.address) w.bind.ensures)))
      | in_default w ↦
          subst (λ (i : Inside). AreFiled i.sets.entries) (sym w.self-inside-is)
          (subst (λ m. AreFiled m.entries) (sym c.get_mut.follows.holds-at-none) c.self.invariant)
    ]

pub returns-clause-sets : goal.returns-clause-sets
returns-clause-sets c =
    let sets = λ (r : Registered). r.sets in
    elim c.match-get_mut.branch [
      | in-Some w ↦
          ap (λ (i : Inside). values_of i.sets.entries) w.self-inside-is
          ∙ ap values_of (c.get_mut.follows.holds w.bind.new.self).0
          ∙ bound-sets c.args.address c.self.inside.sets.entries c.args.self.now c.self.invariant (ap sets c.self.view_is)
          w.in-Some.set.now w.bind.new.self c.args.name w.in-Some.ensures.value w.bind.ensures
      | in_default w ↦
          ap (λ (i : Inside). values_of i.sets.entries) w.self-inside-is
          ∙ ap (λ m. values_of m.entries) c.get_mut.follows.holds-at-none ∙ ap sets c.self.view_is
          ∙ sym (ap (λ o. binding o c.args.name c.args.self.now.sets)
          (set-absent c.args.address c.self.inside.sets.entries c.args.self.now c.self.invariant (ap sets c.self.view_is) w.in_default.ensures.value))
    ]
