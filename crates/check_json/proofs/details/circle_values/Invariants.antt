use Rattle.std.proofs.Common.{◌≡◌, ◌++◌, drop, map}
use Rattle.serde_json.specs.View.{view}
use Rattle.check_json.specs.Json.{object_data}
use Rattle.check_json.proofs.details.circle_values.Given as goal

abbrev pub invariant-loop-id : goal.invariant-loop-id
invariant-loop-id l = map view l.path.items ++ map (object_data l.source) (drop l.id-index l.circle) ≡ map (object_data l.source) l.circle
