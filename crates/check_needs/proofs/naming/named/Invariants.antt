use Rattle.std.proofs.Common.{◌≡◌, ℕ, map, drop}
use Rattle.std.specs.List.{flat_map}
use Rattle.vt_stores.specs.Stores.{seen_entry}
use Rattle.vt_stores.specs.Shapes.{shape_of}
use Rattle.check_needs.specs.Naming.{has_with, is_among, names, ids_named}
use Rattle.check_needs.proofs.naming.named.Given as goal

abbrev pub invariant-loop-id : goal.invariant-loop-id
invariant-loop-id l =
    (map seen_entry l.id-items ≡ l.objects)
    × ((id : ℕ) → is_among id (names l.objects) ≡ has_with l.set (flat_map (ids_named (shape_of l.objects)) (map seen_entry (drop l.id-index l.id-items))) id)
