use Rattle.std.proofs.Common.{◌≡◌, drop}
use Rattle.vt_verify.specs.Lists.{first_failing}
use Rattle.vt_stores.specs.Shapes.{shape_of}
use Rattle.vt_verify.specs.References.{passes}
use Rattle.vt_verify.specs.Targets.{entry_references}
use Rattle.vt_verify.proofs.targets.failing_entry.Given as goal

abbrev pub invariant-loop-entry : goal.invariant-loop-entry
invariant-loop-entry l =
    first_failing (passes l.test (shape_of l.objects)) (entry_references l.id l.entries)
    ≡ first_failing (passes l.test (shape_of l.objects)) (entry_references l.id (drop l.entry-index l.entries))
