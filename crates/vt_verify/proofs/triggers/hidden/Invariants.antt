use Rattle.std.proofs.Common.{◌≡◌, ◌++◌, drop, map}
use Rattle.vt_stores.specs.Stores.{seen_entry}
use Rattle.vt_stores.specs.Shapes.{shape_of}
use Rattle.vt_verify.specs.Triggers.{listing, masks}
use Rattle.vt_verify.specs.TriggerGraphs.{groups_of}
use Rattle.vt_verify.proofs.triggers.hidden.Given as goal

abbrev pub invariant-loop-id : goal.invariant-loop-id
invariant-loop-id l =
    (map seen_entry l.id-items ≡ l.objects)
    × (l.groups.items ++ groups_of l.events.keys (map (λ mask. listing mask 4) (masks (shape_of (map seen_entry (drop l.id-index l.id-items)))))
    ≡ groups_of l.events.keys (map (λ mask. listing mask 4) (masks (shape_of l.objects))))
