use Rattle.std.proofs.Common.{◌≡◌, take, map}
use Rattle.vt_stores.specs.Stores.{seen_entry}
use Rattle.vt_stores.specs.Shapes.{shape_of}
use Rattle.vt_verify.specs.Triggers.{masks}
use Rattle.check_costs.specs.Shares.{IsCostliest}
use Rattle.check_costs.proofs.costliest.costliest_hide.Given as goal

abbrev pub invariant-loop-id : goal.invariant-loop-id
invariant-loop-id l =
    (map seen_entry l.id-items ≡ l.pool.objects.now)
    × IsCostliest (shape_of l.pool.objects.now) (masks (shape_of (map seen_entry (take l.id-index l.id-items)))) l.found
