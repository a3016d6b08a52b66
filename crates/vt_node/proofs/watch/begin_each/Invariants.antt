use Rattle.std.proofs.Common.{◌≡◌, ◌<◌, ◌≤◌, ℕ, List, Bool, false, Some, get_or, unwrap_or}
use Rattle.vt_node.specs.Watches.{heard_in}
use Rattle.vt_node.proofs.watch.begin_each.Given as goal

-- the addresses below an index have a time, and the others are unchanged
pub record HasBegun (old_last : List ℕ) (old_awaited : List Bool) (last : List ℕ) (awaited : List Bool) (now place : ℕ) : Type 0 where
  pub heard : (q : ℕ) → q < place → heard_in last awaited q ≡ Some (unwrap_or (heard_in old_last old_awaited q) now)
  pub none : (q : ℕ) → q < place → get_or awaited q false ≡ false
  pub later_last : (q : ℕ) → place ≤ q → get_or last q 0 ≡ get_or old_last q 0
  pub later_awaited : (q : ℕ) → place ≤ q → get_or awaited q false ≡ get_or old_awaited q false

abbrev pub invariant-loop-place : goal.invariant-loop-place
invariant-loop-place l = HasBegun l.fn.last l.fn.awaited l.last l.awaited l.now l.place
