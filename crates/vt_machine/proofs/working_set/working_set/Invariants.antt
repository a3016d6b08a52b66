use Rattle.std.proofs.Common.{◌≡◌, drop, map}
use Rattle.vt_stores.specs.Stores.{seen_entry}
use Rattle.vt_verify.specs.Rules.{working_sets}
use Rattle.vt_stores.specs.Shapes.{shape_of}
use Rattle.vt_machine.proofs.working_set.working_set.Given as goal

abbrev pub invariant-loop-id : goal.invariant-loop-id
invariant-loop-id l =
    working_sets (shape_of (map seen_entry l.objects)) ≡ working_sets (shape_of (map seen_entry (drop l.id-index l.objects)))
