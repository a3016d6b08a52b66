use Rattle.std.proofs.Common.{sym}
use Rattle.serde_json.specs.View.{view}
use Rattle.vt_service.specs.Asking.{element_data}
use Rattle.vt_service.proofs.Listed.{next_entry}
use Rattle.vt_service.proofs.asking.elements.Goals as goal

pub loop-element-preserved : goal.loop-element-preserved
loop-element-preserved c =
    next_entry view element_data c.as_slice-element-items.result.now c.loop-element.element-index c.element-item.result _ c.in_ok-element_value.field-0
    c.loop-element.values.items c.push.new.self.items c.loop-element-test.true (sym c.element-item.is) c.in_ok-push.ensures.items c.in_ok-element_value.ensures c.loop-element.invariant
