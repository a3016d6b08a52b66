use Rattle.std.proofs.Common.{sym, subst, arith}
use Rattle.vt_stores.specs.Stores.{AreStored}
use Rattle.draw_gallery.proofs.Stored.{all_written, is_named, of_map, one_more}
use Rattle.draw_gallery.proofs.bytes.bytes_of.Goals as goal

pub write_object-requires : goal.write_object-requires
write_object-requires c =
    let kept = c.loop-id.invariant in
    is_named c.entries-id-items.result.now c.loop-id.id-index c.loop-id-item.result c.loop-id-test.true c.loop-id-item.is
    (subst AreStored (sym kept.0) kept.1)

pub loop-id-preserved : goal.loop-id-preserved
loop-id-preserved c =
    let kept = c.loop-id.invariant in (
      kept.0,
      kept.1,
      one_more c.loop-id.bytes.items _ _ c.entries-id-items.result.now c.loop-id.id-index c.loop-id-item.result c.loop-id-test.true c.loop-id-item.is
          c.in_ok-write_object.ensures.ok kept.2,
    )

pub returns : goal.returns
returns c =
    let kept = c.loop-id.invariant in
    of_map c.loop-id.bytes.items _ kept.1
    (all_written _ c.loop-id.bytes.items c.entries-id-items.result.now c.loop-id.id-index (omega (arith, c.loop-id-test.false)) kept.2)
