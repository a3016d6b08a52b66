use Rattle.std.proofs.Common.{◌≡◌, ◌++◌, map, drop}
use Rattle.check_inspect.specs.Findings.{reference_finding}
use Rattle.check_inspect.proofs.rules.put_references.Given as goal

abbrev pub invariant-loop-reference : goal.invariant-loop-reference
invariant-loop-reference l =
    l.findings.items ++ map (reference_finding l.rule) (drop l.reference-index l.references) ≡ l.fn.findings.items ++ map (reference_finding l.rule) l.references
