use Rattle.std.proofs.Common.{true, false, [], refl}
use Rattle.vt_server.specs.States.{state_of}
use Rattle.vt_server.specs.Terminals.{pool_of}
use Rattle.vt_server.proofs.lemmas.operator.ActionStep.{is-there, takes-set, takes-no_set}
use Rattle.vt_server.proofs.terminal.Terminal.select_set.Goals as goal

pub returns-then-is_none-clause-takes : goal.returns-then-is_none-clause-takes
returns-then-is_none-clause-takes c =
    takes-no_set (state_of c.args.self.now) c.args.address []
    (is-there _ c.pool.result (pool_of (state_of c.args.self.now) c.args.address) false c.pool.ensures c.if-is_none.ensures) _ refl

pub returns-clause-takes : goal.returns-clause-takes
returns-clause-takes c =
    takes-set (state_of c.args.self.now) c.args.address []
    (is-there _ c.pool.result (pool_of (state_of c.args.self.now) c.args.address) true c.pool.ensures c.if-is_none.ensures)
