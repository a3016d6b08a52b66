use Rattle.std.proofs.Common.{None, refl, sym}
use Rattle.vt_stores.specs.Shapes.{shape_of}
use Rattle.vt_verify.specs.References.{is_there, fits, slot_references, slot_values}
use Rattle.vt_verify.proofs.lemmas.rules.FirstFailure.{passes_at}
use Rattle.vt_verify.proofs.references.all_pass.Goals as goal

pub loop-id-preserved : goal.loop-id-preserved
loop-id-preserved c =
    let shape = shape_of c.args.objects.now in
    let items = c.entries-id-items.result.now in
    let both = c.if-not-all_pass_in.ensures in (
      c.loop-id.invariant.0,
      passes_at (is_there shape) slot_references _ items c.loop-id.id-index c.loop-id-item.result None c.loop-id-test.true c.loop-id-item.is c.loop-id.invariant.1
          (sym (both.there refl)) refl,
      passes_at (fits shape) (slot_values c.args.objects.now) _ items c.loop-id.id-index c.loop-id-item.result None c.loop-id-test.true c.loop-id-item.is c.loop-id.invariant.2
          (sym (both.fit refl)) refl,
    )
