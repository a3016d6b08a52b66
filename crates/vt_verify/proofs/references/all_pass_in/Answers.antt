use Rattle.std.proofs.Common.{List, map, refl, sym, ap, ◌∙◌}
use Rattle.std.specs.List.{flat_map}
use Rattle.vt_kinds.specs.declared.slot.Slot.{Slot}
use Rattle.vt_verify.specs.declared.reference.Reference.{Reference}
use Rattle.vt_verify.specs.Lists.{first_failing}
use Rattle.vt_stores.specs.Shapes.{shape_of}
use Rattle.vt_verify.specs.References.{is_there, fits, of_slot, with_value}
use Rattle.vt_verify.proofs.lemmas.rules.FirstFailure.{passes_in}
use Rattle.vt_verify.proofs.lemmas.references.ReferenceTests.{passed}
use Rattle.vt_verify.proofs.references.all_pass_in.Goals as goal

pub loop-slot-preserved : goal.loop-slot-preserved
loop-slot-preserved c =
    let there = is_there (shape_of c.args.objects.now) in
    let fit = fits (shape_of c.args.objects.now) in
    let values = with_value c.args.objects.now in
    let first = of_slot c.args.parent c.in-Some.slot in
    let left = map (of_slot c.args.parent) c.next.new.self in
    let both = c.if-not-passes_both.ensures in (
      tt,
      tt,
      c.loop-slot.invariant.2
          ∙ ap (λ (slots : List Slot). first_failing there (map (of_slot c.args.parent) slots)) c.in-Some.ensures.steps
          ∙ passed there first left (ap there (sym c.of_slot.ensures) ∙ both.there refl),
      c.loop-slot.invariant.3
          ∙ ap (λ (slots : List Slot). first_failing fit (flat_map values (map (of_slot c.args.parent) slots))) c.in-Some.ensures.steps
          ∙ passes_in fit (values first) (flat_map values left) (ap (λ (r : Reference). first_failing fit (values r)) (sym c.of_slot.ensures) ∙ both.fit refl),
    )
