use Rattle.std.proofs.Common.{◌≡◌, ℕ, inl, inr, sym, subst, ◌∙◌}
use Rattle.std.specs.List.{AllByRecursion}
use Rattle.vt_kinds.specs.Records.{Seen}
use Rattle.vt_stores.specs.Shapes.{shape_of}
use Rattle.vt_stores.specs.Stores.{seen_entry}
use Rattle.vt_verify.specs.Budgets.{budget}
use Rattle.check_needs.specs.declared.loads.Dearest.{Dearest}
use Rattle.check_needs.specs.Loads.{IsWithin}
use Rattle.check_needs.proofs.lemmas.Dearer.{all_within, next_entry, all_taken}
use Rattle.check_needs.proofs.loads.dearest_event.Goals as goal

pub loop-id-preserved : goal.loop-id-preserved
loop-id-preserved c =
    let shape = shape_of c.args.accepted.now in
    let items = c.objects-id-items.result.now in
    let new = c.dearer-dearest.result in (
      c.loop-id.invariant.0,
      elim c.dearer-dearest.ensures.either [
        | inl e ↦ subst (λ (d : Dearest). budget (shape_of c.args.accepted.now) d.id d.event ≡ d.steps) (sym e) c.loop-id.invariant.1
        | inr e ↦ subst (λ (d : Dearest). budget (shape_of c.args.accepted.now) d.id d.event ≡ d.steps) (sym e) c.dearest_of.ensures.steps
      ],
      subst (AllByRecursion (λ (x : ℕ × Seen). IsWithin (shape_of c.args.accepted.now) c.dearer-dearest.result.steps x.0))
          (sym (next_entry c.objects-id-items.result.now c.loop-id.id-index c.loop-id-item.result c.loop-id-test.true c.loop-id-item.is))
          (all_within (shape_of c.args.accepted.now) c.loop-id.dearest.steps c.dearest_of.result.steps c.dearer-dearest.result.steps
          c.dearer-dearest.ensures.first c.dearer-dearest.ensures.second _ (seen_entry c.loop-id-item.result) c.loop-id.invariant.2 c.dearest_of.ensures.most),
    )

pub returns : goal.returns
returns c = record {
  steps = c.loop-id.invariant.1;
  most = subst (AllByRecursion (λ (x : ℕ × Seen). IsWithin (shape_of c.args.accepted.now) c.loop-id.dearest.steps x.0))
      (all_taken c.objects-id-items.result.now c.loop-id.id-index c.loop-id-test.false ∙ c.loop-id.invariant.0) c.loop-id.invariant.2;
}
