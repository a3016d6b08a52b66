use Rattle.std.proofs.Common.{ℕ, List, Bor, map, take}
use Rattle.log_trace.specs.Changes.{AreLastPlaces}
use Rattle.log_trace.proofs.changes.last_places.Given as goal

abbrev pub invariant-loop-place : goal.invariant-loop-place
invariant-loop-place l = AreLastPlaces (map (λ (line : Bor (List ℕ)). line.now) (take l.place l.lines)) l.last
