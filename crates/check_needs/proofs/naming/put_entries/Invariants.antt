use Rattle.std.proofs.Common.{◌≡◌, ℕ, map, drop}
use Rattle.vt_verify.specs.Targets.{entry_references}
use Rattle.check_needs.specs.Naming.{has_with}
use Rattle.check_needs.proofs.naming.put_entries.Given as goal

abbrev pub invariant-loop-entry : goal.invariant-loop-entry
invariant-loop-entry l =
    (parent id : ℕ) → has_with l.fn.set (map (λ r. r.id) (entry_references parent l.entries)) id
    ≡ has_with l.set (map (λ r. r.id) (entry_references parent (drop l.entry-index l.entries))) id
