use Rattle.std.proofs.Common.{◌≡◌, ◌++◌, drop}
use Rattle.check_values.specs.Entries.{unless_raised}
use Rattle.check_values.specs.Listed.{each_from}
use Rattle.check_values.proofs.entries.put_entries.Given as goal

abbrev pub invariant-loop-index : goal.invariant-loop-index
invariant-loop-index l =
    l.fn.found.items ++ each_from (unless_raised l.id l.kind) 0 l.entries ≡ l.found.items ++ each_from (unless_raised l.id l.kind) l.index (drop l.index l.entries)
