use Rattle.serde_json.specs.View.{view}
use Rattle.vt_service.specs.Asking.{element_data}
use Rattle.vt_service.proofs.Listed.{IsTelling}
use Rattle.vt_service.proofs.asking.elements.Given as goal

abbrev pub invariant-loop-element : goal.invariant-loop-element
invariant-loop-element l = IsTelling view element_data l.element-items l.element-index l.values.items
