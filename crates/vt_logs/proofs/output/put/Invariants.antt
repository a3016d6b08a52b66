use Rattle.std.proofs.Common.{◌≡◌, ◌≤◌, ◌++◌, ℕ, List, [], true}
use Rattle.std.specs.Io.KnownBytes.{Appends}
use Rattle.vt_logs.proofs.output.put.Given as goal

-- The bytes written, and the remaining ones, of which a steady writer has none after its first write.
abbrev pub invariant-loop : goal.invariant-loop
invariant-loop g l =
    (front : List ℕ) × (l.bytes ≡ front ++ l.rest) × Appends (g.W.Write.contents l.initial.writer) (g.W.Write.contents l.writer) front
    × (g.W.Sink.steady ≡ true → (l.counter ≤ 1) × (l.counter ≡ 1 → l.rest ≡ []))
