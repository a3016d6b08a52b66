use Rattle.std.proofs.Common.{ℕ, Result, Ok, Err, refl, sym, ap, subst, ◌∙◌}
use Rattle.vt_kinds.specs.Records.{Seen, seen}
use Rattle.vt_effects.specs.Changes.{HasResult, left}
use Rattle.vt_effects.proofs.lemmas.objects.AttributeChanges.{attribute_put}
use Rattle.vt_effects.proofs.changes.attributes.change_attribute.Goals as goal
use Rattle.vt_stores.proofs.ObjectShapes.{seen_kind}

pub returns-then-not-takes-clause-result : goal.returns-then-not-takes-clause-result
returns-then-not-takes-clause-result c = let o = seen c.args.object.now in
    subst (λ (r : Result Seen ℕ). HasResult (Err 4) r) (sym (attribute_put c.args.kind_of_other c.args.number c.args.value o c.kind-kind.result c.in-Some.attribute _ (c.kind-kind.ensures ∙ sym (seen_kind c.args.object.now)) (sym c.contains.ensures ∙ c.if-not-contains.false) (sym c.attribute.ensures ∙ c.in-Some.is) (sym c.if-not-takes.true ∙ c.takes.ensures))) refl

pub returns-then-not-takes-clause-object : goal.returns-then-not-takes-clause-object
returns-then-not-takes-clause-object c = let o = seen c.args.object.now in
    ap (left o) (sym (attribute_put c.args.kind_of_other c.args.number c.args.value o c.kind-kind.result c.in-Some.attribute _ (c.kind-kind.ensures ∙ sym (seen_kind c.args.object.now)) (sym c.contains.ensures ∙ c.if-not-contains.false) (sym c.attribute.ensures ∙ c.in-Some.is) (sym c.if-not-takes.true ∙ c.takes.ensures)))

pub returns-clause-result : goal.returns-clause-result
returns-clause-result c = let o = seen c.args.object.now in
    subst (λ (r : Result Seen ℕ). HasResult (Ok tt) r) (sym (attribute_put c.args.kind_of_other c.args.number c.args.value o c.kind-kind.result c.in-Some.attribute _ (c.kind-kind.ensures ∙ sym (seen_kind c.args.object.now)) (sym c.contains.ensures ∙ c.if-not-contains.false) (sym c.attribute.ensures ∙ c.in-Some.is) (sym c.if-not-takes.false ∙ c.takes.ensures))) tt

pub returns-clause-object : goal.returns-clause-object
returns-clause-object c = let o = seen c.args.object.now in
    c.write_field.ensures
    ∙ ap (left o) (sym (attribute_put c.args.kind_of_other c.args.number c.args.value o c.kind-kind.result c.in-Some.attribute _ (c.kind-kind.ensures ∙ sym (seen_kind c.args.object.now)) (sym c.contains.ensures ∙ c.if-not-contains.false) (sym c.attribute.ensures ∙ c.in-Some.is) (sym c.if-not-takes.false ∙ c.takes.ensures)))
