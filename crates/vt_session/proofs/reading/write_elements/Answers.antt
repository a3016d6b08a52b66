use Rattle.std.proofs.Common.{sym}
use Rattle.vt_session.specs.Readings.{element_bytes}
use Rattle.vt_session.proofs.Written.{next_item}
use Rattle.vt_session.proofs.reading.write_elements.Goals as goal

pub loop-element-preserved : goal.loop-element-preserved
loop-element-preserved c =
    next_item element_bytes c.as_slice-element-items.result.now c.loop-element.element-index c.element-item.result _ c.loop-element.text.items c.write_element.new.text.items c.args.text.now.items
    c.loop-element-test.true (sym c.element-item.is) c.in_ok-write_element.ensures c.loop-element.invariant
