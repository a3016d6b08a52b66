use Rattle.std.proofs.Common.{◌≡◌, ◌++◌, map, drop}
use Rattle.check_inspect.specs.declared.finding.Finding.TheVariants.{Record}
use Rattle.check_inspect.proofs.inspection.fault_findings.Given as goal

abbrev pub invariant-loop-fault : goal.invariant-loop-fault
invariant-loop-fault l = l.findings.items ++ map Record (drop l.fault-index l.faults) ≡ map Record l.faults
