use Rattle.std.proofs.Common.{◌≡◌, ◌++◌, drop}
use Rattle.check_values.specs.WorkingSets.{unless_language}
use Rattle.check_values.specs.Listed.{each_from}
use Rattle.check_values.proofs.working_sets.put_codes.Given as goal

abbrev pub invariant-loop-index : goal.invariant-loop-index
invariant-loop-index l =
    l.fn.found.items ++ each_from (unless_language l.id) 0 l.languages ≡ l.found.items ++ each_from (unless_language l.id) l.index (drop l.index l.languages)
