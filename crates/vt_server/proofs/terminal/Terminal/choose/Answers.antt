use Rattle.std.proofs.Common.{refl}
use Rattle.vt_server.specs.States.{state_of}
use Rattle.vt_server.proofs.lemmas.shown.EventsOfChange.{chosen-none}
use Rattle.vt_server.proofs.terminal.Terminal.choose.Goals as goal

pub returns-then-not-may_have_pools-clause-state : goal.returns-then-not-may_have_pools-clause-state
returns-then-not-may_have_pools-clause-state c = chosen-none (state_of c.args.self.now) (c.if-not-may_have_pools.ensures refl)
