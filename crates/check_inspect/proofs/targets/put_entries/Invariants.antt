use Rattle.std.proofs.Common.{◌≡◌, ◌++◌, drop}
use Rattle.vt_stores.specs.Shapes.{shape_of}
use Rattle.check_inspect.specs.Lists.{all_failing}
use Rattle.check_inspect.specs.References.{passes_at, entries_at}
use Rattle.check_inspect.proofs.targets.put_entries.Given as goal

abbrev pub invariant-loop-index : goal.invariant-loop-index
invariant-loop-index l =
    l.found.items ++ all_failing (passes_at l.test (shape_of l.objects)) (entries_at l.id l.index (drop l.index l.entries))
    ≡ l.fn.found.items ++ all_failing (passes_at l.test (shape_of l.objects)) (entries_at l.id 0 l.entries)
