use Rattle.std.proofs.Common.{◌≡◌, ◌++◌, map}
use Rattle.check_inspect.specs.Findings.{circle_finding}
use Rattle.check_inspect.proofs.triggers.put_circles.Given as goal

abbrev pub invariant-loop-circle : goal.invariant-loop-circle
invariant-loop-circle l =
    l.findings.items ++ map circle_finding l.circle-iterator.rest.items
    ≡ l.fn.findings.items ++ map circle_finding l.initial.circle-iterator.rest.items
