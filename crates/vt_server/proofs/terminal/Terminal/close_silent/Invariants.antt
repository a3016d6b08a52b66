use Rattle.std.proofs.Common.{◌≡◌, length}
use Rattle.vt_server.specs.frame.TimeoutActs.{silences}
use Rattle.vt_server.specs.frame.TimeoutContracts.{ClosesSets}
use Rattle.vt_server.specs.States.{state_of}
use Rattle.vt_server.specs.Terminals.{after_acts}
use Rattle.vt_server.specs.declared.terminal.Terminal.{Terminal}
use Rattle.vt_server.proofs.terminal.Terminal.close_silent.Given as goal

-- The closings still due lead to the same state as all closings due at first.
pub record IsClosing (old now : Terminal) : Type 0 where
  pub state : after_acts (state_of now) (silences (state_of now)) ≡ after_acts (state_of old) (silences (state_of old))
  pub closes : ClosesSets old now

abbrev pub invariant-loop-address : goal.invariant-loop-address
invariant-loop-address l = IsClosing l.fn.self l.self

abbrev pub decreases-loop-address : goal.decreases-loop-address
decreases-loop-address l = length l.self.registry.sets
