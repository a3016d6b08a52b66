use Rattle.std.proofs.Common.{◌≡◌, drop}
use Rattle.vt_server.specs.shown.ShownSet.{first_with_pool}
use Rattle.vt_server.specs.States.{state_of}
use Rattle.vt_server.specs.Terminals.{pool_of}
use Rattle.vt_server.proofs.terminal.Terminal.first_with_pool.Given as goal

-- no set before the index has a pool
abbrev pub invariant-loop-place : goal.invariant-loop-place
invariant-loop-place l =
    first_with_pool (pool_of (state_of l.self)) (drop l.place l.self.registry.sets) ≡ first_with_pool (pool_of (state_of l.self)) l.self.registry.sets
