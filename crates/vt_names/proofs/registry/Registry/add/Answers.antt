use Rattle.std.proofs.Common.{◌≡◌, ◌∙◌, [], OnOk, ap, sym, subst, nat_eq}
use Rattle.std.specs.Map.{values_of}
use Rattle.indexmap.specs.IndexMap.{insert_entry}
use Rattle.vt_names.specs.Registry.{Set, Registered, AreFiled, member_count, with_set}
use Rattle.vt_names.proofs.SetsByAddress.{filed-inserted, values-inserted}
use Rattle.vt_names.proofs.registry.Registry.add.Goals as goal

pub invariant_of-self : goal.invariant_of-self
invariant_of-self c =
    let made : Set = record { address = c.args.address; name = c.args.name; count = member_count c.args.count; members = [] } in
    let entries = subst (λ r. OnOk r (c.insert.new.self.entries ≡ insert_entry nat_eq c.self.inside.sets.entries c.args.address c.new.result)) c.unwrap.ensures c.insert.ensures.entries in
    subst AreFiled
    (sym (entries ∙ ap (λ (s : Set). insert_entry nat_eq c.self.inside.sets.entries c.args.address s) c.new.ensures))
    (filed-inserted made c.self.inside.sets.entries c.self.invariant)

pub returns-clause-ok : goal.returns-clause-ok
returns-clause-ok c =
    let made : Set = record { address = c.args.address; name = c.args.name; count = member_count c.args.count; members = [] } in
    let entries = subst (λ r. OnOk r (c.insert.new.self.entries ≡ insert_entry nat_eq c.self.inside.sets.entries c.args.address c.new.result)) c.unwrap.ensures c.insert.ensures.entries in
    ap values_of (entries ∙ ap (λ (s : Set). insert_entry nat_eq c.self.inside.sets.entries c.args.address s) c.new.ensures)
    ∙ values-inserted made c.self.inside.sets.entries c.self.invariant
    ∙ ap (with_set made) (ap (λ (r : Registered). r.sets) c.self.view_is ∙ c.in_ok-reserve_one.ensures.sets)
