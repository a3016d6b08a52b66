use Rattle.std.proofs.Common.{◌≡◌, ◌++◌, ℕ, List, Bor, drop, map}
use Rattle.log_trace.specs.Changes.{marked}
use Rattle.log_trace.proofs.changes.put_marked.Given as goal

abbrev pub invariant-loop-line : goal.invariant-loop-line
invariant-loop-line l =
    l.text.items ++ marked l.mark (map (λ (line : Bor (List ℕ)). line.now) (drop l.line-index l.lines))
    ≡ l.initial.text.items ++ marked l.mark (map (λ (line : Bor (List ℕ)). line.now) l.lines)
