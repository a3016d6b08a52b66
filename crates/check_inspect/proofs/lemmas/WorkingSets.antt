-- The working sets that are left in a loop.
use Rattle.std.proofs.Common.{ℕ, Bool, true, false, List, map}
use Rattle.check_inspect.specs.declared.finding.Finding.{Finding}
use Rattle.check_inspect.specs.declared.finding.Finding.TheVariants as findings
use Rattle.check_inspect.specs.Findings.{set_findings}

-- what the remaining working sets add, if the first is among them or not
abbrev pub sets_left : Bool → Bool → List ℕ → List Finding
sets_left true are_all ids = set_findings are_all ids
sets_left false are_all ids = map findings.TwoWorkingSets ids
