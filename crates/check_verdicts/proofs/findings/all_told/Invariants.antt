use Rattle.std.proofs.Common.{◌≡◌, ◌++◌, map, drop}
use Rattle.check_verdicts.specs.Findings.{told}
use Rattle.check_verdicts.proofs.findings.all_told.Given as goal

abbrev pub invariant-loop-finding : goal.invariant-loop-finding
invariant-loop-finding l = l.all.items ++ map told (drop l.finding-index l.findings) ≡ map told l.findings
