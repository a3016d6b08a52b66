use Rattle.std.proofs.Common.{◌≡◌, ◌++◌, filter}
use Rattle.check_inspect.specs.Inspections.{is_judged}
use Rattle.check_inspect.proofs.passed.put_judged.Given as goal

-- the judged findings so far, and those of the findings to come
abbrev pub invariant-loop-finding : goal.invariant-loop-finding
invariant-loop-finding l =
    l.findings.items ++ filter (is_judged l.passed) l.finding-iterator.rest.items ≡ l.fn.findings.items ++ filter (is_judged l.fn.passed) l.fn.found.items
