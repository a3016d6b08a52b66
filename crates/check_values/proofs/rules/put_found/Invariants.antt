use Rattle.std.proofs.Common.{◌≡◌, ◌++◌, map, drop}
use Rattle.std.specs.List.{flat_map}
use Rattle.vt_stores.specs.Stores.{seen_entry}
use Rattle.check_values.specs.ValueWarnings.{found, found_at}
use Rattle.check_values.proofs.rules.put_found.Given as goal

abbrev pub invariant-loop-id : goal.invariant-loop-id
invariant-loop-id l =
    (map seen_entry l.id-items ≡ l.objects)
    × (l.fn.found.items ++ found l.rule l.objects
    ≡ l.found.items ++ flat_map (found_at l.rule l.objects) (map seen_entry (drop l.id-index l.id-items)))
