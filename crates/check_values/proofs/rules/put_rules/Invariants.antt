use Rattle.std.proofs.Common.{◌≡◌, ◌++◌, drop}
use Rattle.check_values.specs.ValueWarnings.{found_by}
use Rattle.check_values.proofs.rules.put_rules.Given as goal

abbrev pub invariant-loop-rule : goal.invariant-loop-rule
invariant-loop-rule l =
    l.fn.found.items ++ found_by l.rules l.objects ≡ l.found.items ++ found_by (drop l.rule-index l.rules) l.objects
