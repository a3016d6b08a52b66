use Rattle.std.proofs.Common.{sym}
use Rattle.vt_stores.specs.Shapes.{shape_of}
use Rattle.vt_verify.specs.References.{fits, slot_values}
use Rattle.vt_verify.proofs.lemmas.rules.FirstFailure.{fails_at, passes_at}
use Rattle.vt_verify.proofs.references.wrong_kind.Goals as goal

pub returns-in-Some : goal.returns-in-Some
returns-in-Some c =
    sym (fails_at (fits (shape_of c.args.objects.now)) (slot_values c.args.objects.now) _ c.entries-id-items.result.now c.loop-id.id-index c.loop-id-item.result
    c.in-Some.reference c.wrong_kind_in.result c.loop-id-test.true c.loop-id-item.is c.loop-id.invariant.1 c.wrong_kind_in.ensures c.in-Some.is)

pub loop-id-preserved : goal.loop-id-preserved
loop-id-preserved c = (
  c.loop-id.invariant.0,
  passes_at (fits (shape_of c.args.objects.now)) (slot_values c.args.objects.now) _ c.entries-id-items.result.now c.loop-id.id-index c.loop-id-item.result
      c.wrong_kind_in.result c.loop-id-test.true c.loop-id-item.is c.loop-id.invariant.1 c.wrong_kind_in.ensures c.in_default.is,
)
