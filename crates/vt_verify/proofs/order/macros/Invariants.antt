use Rattle.std.proofs.Common.{◌≡◌, take, map}
use Rattle.vt_stores.specs.Stores.{seen_entry}
use Rattle.vt_stores.specs.Shapes.{shape_of}
use Rattle.vt_verify.specs.Orders.{named_macros}
use Rattle.vt_verify.proofs.order.macros.Given as goal

abbrev pub invariant-loop-id : goal.invariant-loop-id
invariant-loop-id l =
    (map seen_entry l.id-items ≡ l.objects)
    × (l.macros.items ≡ named_macros (shape_of (map seen_entry (take l.id-index l.id-items))))
