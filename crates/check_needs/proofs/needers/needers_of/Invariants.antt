use Rattle.std.proofs.Common.{◌≡◌, map, drop}
use Rattle.vt_stores.specs.Stores.{seen_entry}
use Rattle.check_needs.specs.Needers.{numbers_of}
use Rattle.check_needs.specs.Needs.{both, all_of, needs_of, needs_at}
use Rattle.check_needs.proofs.needers.needers_of.Given as goal

abbrev pub invariant-loop-id : goal.invariant-loop-id
invariant-loop-id l =
    (map seen_entry l.id-items ≡ l.objects)
    × (needs_of l.objects ≡ both (numbers_of l.found) (all_of (map (λ e. needs_at l.objects e.1) (map seen_entry (drop l.id-index l.id-items)))))
