use Rattle.std.proofs.Common.{◌≡◌, ◌++◌, map, drop}
use Rattle.std.specs.List.{flat_map}
use Rattle.vt_stores.specs.Stores.{seen_entry, object_at}
use Rattle.check_needs.specs.Differences.{added}
use Rattle.check_needs.proofs.differences.put_added.Given as goal

abbrev pub invariant-loop-id : goal.invariant-loop-id
invariant-loop-id l =
    (map seen_entry l.id-items ≡ l.new)
    × (l.fn.found.items ++ flat_map (λ e. added e.0 (object_at l.old e.0)) l.new
    ≡ l.found.items ++ flat_map (λ e. added e.0 (object_at l.old e.0)) (map seen_entry (drop l.id-index l.id-items)))
