use Rattle.std.proofs.Common.{◌≡◌, map, take}
use Rattle.std.specs.List.{AllByRecursion}
use Rattle.vt_stores.specs.Shapes.{shape_of}
use Rattle.vt_stores.specs.Stores.{seen_entry}
use Rattle.vt_verify.specs.Budgets.{budget}
use Rattle.check_needs.specs.Loads.{IsWithin}
use Rattle.check_needs.proofs.loads.dearest_event.Given as goal

abbrev pub invariant-loop-id : goal.invariant-loop-id
invariant-loop-id l =
    (map seen_entry l.id-items ≡ l.accepted)
    × (budget (shape_of l.accepted) l.dearest.id l.dearest.event ≡ l.dearest.steps)
    × AllByRecursion (λ e. IsWithin (shape_of l.accepted) l.dearest.steps e.0) (map seen_entry (take l.id-index l.id-items))
