use Rattle.std.proofs.Common.{◌≡◌, ◌++◌, map, drop}
use Rattle.std.specs.List.{flat_map}
use Rattle.vt_stores.specs.Stores.{seen_entry, object_at}
use Rattle.check_needs.specs.Differences.{kept_or_removed}
use Rattle.check_needs.proofs.differences.put_kept.Given as goal

abbrev pub invariant-loop-id : goal.invariant-loop-id
invariant-loop-id l =
    (map seen_entry l.id-items ≡ l.old)
    × (l.fn.found.items ++ flat_map (λ e. kept_or_removed e.0 e.1 (object_at l.new e.0)) l.old
    ≡ l.found.items ++ flat_map (λ e. kept_or_removed e.0 e.1 (object_at l.new e.0)) (map seen_entry (drop l.id-index l.id-items)))
