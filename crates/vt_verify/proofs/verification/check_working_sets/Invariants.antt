use Rattle.std.proofs.Common.{◌≡◌, ◌≤◌, ◌+◌, drop, map}
use Rattle.vt_stores.specs.Stores.{seen_entry}
use Rattle.vt_stores.specs.Shapes.{shape_of}
use Rattle.vt_verify.specs.Rules.{working_sets}
use Rattle.vt_verify.proofs.verification.check_working_sets.Given as goal

abbrev pub invariant-loop-object : goal.invariant-loop-object
invariant-loop-object l =
    (l.count ≤ l.object-index)
    × (map seen_entry l.object-items ≡ l.objects)
    × (l.count + working_sets (shape_of (map seen_entry (drop l.object-index l.object-items))) ≡ working_sets (shape_of l.objects))
