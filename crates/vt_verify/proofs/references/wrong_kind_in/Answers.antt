use Rattle.std.proofs.Common.{List, sym, ap, ◌∙◌, map}
use Rattle.std.specs.List.{flat_map}
use Rattle.vt_kinds.specs.declared.slot.Slot.{Slot}
use Rattle.vt_verify.specs.declared.reference.Reference.{Reference}
use Rattle.vt_verify.specs.Lists.{first_failing}
use Rattle.vt_stores.specs.Shapes.{shape_of}
use Rattle.vt_verify.specs.References.{fits, of_slot, with_value}
use Rattle.vt_verify.proofs.lemmas.rules.FirstFailure.{fails_in, passes_in}
use Rattle.vt_verify.proofs.references.wrong_kind_in.Goals as goal

pub returns-in-Some-wrong_or_points_wrong : goal.returns-in-Some-wrong_or_points_wrong
returns-in-Some-wrong_or_points_wrong c =
    let test = fits (shape_of c.args.objects.now) in
    sym (c.loop-slot.invariant.2
    ∙ ap (λ (slots : List Slot). first_failing test (flat_map (with_value c.args.objects.now) (map (of_slot c.args.parent) slots))) c.in-Some.ensures.steps
    ∙ fails_in test (with_value c.args.objects.now (of_slot c.args.parent c.in-Some.slot)) _ c.in-Some-wrong_or_points_wrong.reference
    (ap (λ (r : Reference). first_failing test (with_value c.args.objects.now r)) (sym c.of_slot.ensures)
    ∙ sym c.wrong_or_points_wrong.ensures ∙ c.in-Some-wrong_or_points_wrong.is))

pub loop-slot-preserved : goal.loop-slot-preserved
loop-slot-preserved c =
    let test = fits (shape_of c.args.objects.now) in (
      tt,
      tt,
      c.loop-slot.invariant.2
          ∙ ap (λ (slots : List Slot). first_failing test (flat_map (with_value c.args.objects.now) (map (of_slot c.args.parent) slots))) c.in-Some.ensures.steps
          ∙ passes_in test (with_value c.args.objects.now (of_slot c.args.parent c.in-Some.slot)) _
          (ap (λ (r : Reference). first_failing test (with_value c.args.objects.now r)) (sym c.of_slot.ensures)
          ∙ sym c.wrong_or_points_wrong.ensures ∙ c.in_default.is),
    )
