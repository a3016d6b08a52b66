use Rattle.serde_json.specs.View.{view}
use Rattle.vt_server.specs.States.{state_of}
use Rattle.vt_service.specs.Asking.{set_data}
use Rattle.vt_service.proofs.Listed.{IsTelling}
use Rattle.vt_service.proofs.asking.sets.Given as goal

abbrev pub invariant-loop-index : goal.invariant-loop-index
invariant-loop-index l = IsTelling view (set_data (state_of l.terminal)) (state_of l.terminal).sets l.index l.values.items
