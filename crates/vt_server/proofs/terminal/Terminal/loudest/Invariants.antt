use Rattle.std.proofs.Common.{◌≡◌, ◌≤◌, ℕ, Option, drop, length}
use Rattle.vt_server.specs.shown.ShownSet.{loudest}
use Rattle.vt_server.specs.States.{state_of}
use Rattle.vt_server.specs.Terminals.{State, pool_of}
use Rattle.vt_server.specs.declared.shown.Alarm.{Alarm}
use Rattle.vt_server.proofs.terminal.Terminal.loudest.Given as goal

pub record IsLoudest (s : State) (found : Option Alarm) (place : ℕ) : Type 0 where
  pub within : place ≤ length s.sets
  pub is : found ≡ loudest (pool_of s) (drop place s.sets)

abbrev pub invariant-loop-place : goal.invariant-loop-place
invariant-loop-place l = IsLoudest (state_of l.self) l.loudest l.place

abbrev pub decreases-loop-place : goal.decreases-loop-place
decreases-loop-place l = l.place
