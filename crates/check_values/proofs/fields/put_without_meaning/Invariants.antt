use Rattle.std.proofs.Common.{◌≡◌, ◌++◌, drop}
use Rattle.std.specs.List.{flat_map}
use Rattle.vt_kinds.specs.Records.{seen}
use Rattle.check_values.specs.Fields.{unless_meant, without_meaning}
use Rattle.check_values.proofs.fields.put_without_meaning.Given as goal

abbrev pub invariant-loop-value : goal.invariant-loop-value
invariant-loop-value l =
    l.fn.found.items ++ without_meaning l.id (seen l.object) ≡ l.found.items ++ flat_map (unless_meant l.id) (drop l.value-index l.value-items)
