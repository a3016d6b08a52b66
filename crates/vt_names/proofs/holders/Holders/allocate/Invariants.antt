use Rattle.std.proofs.Common.{◌≡◌, ◌-◌, ℕ, length}
use Rattle.vt_names.specs.Claims.{has_name}
use Rattle.vt_names.proofs.holders.Holders.allocate.Given as goal

abbrev pub invariant-loop-alloc : goal.invariant-loop-alloc
invariant-loop-alloc l = (address name : ℕ) → has_name l.self.names.items address name ≡ has_name l.fn.self.names.items address name

abbrev pub decreases-loop-alloc : goal.decreases-loop-alloc
decreases-loop-alloc l = 256 - length l.self.names.items
