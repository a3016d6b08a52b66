use Rattle.std.proofs.Common.{sym, ap, subst, ◌∙◌}
use Rattle.std.specs.Option.{option_map}
use Rattle.vt_can.specs.lines.Actions.{action_value}
use Rattle.vt_server.specs.operator.ActionContracts.{ActionKeepsLook}
use Rattle.vt_server.proofs.pools.PoolTable.action_keeps_look.Goals as goal

pub returns-in-Some : goal.returns-in-Some
returns-in-Some c quiet =
    subst (λ pool. ActionKeepsLook pool (action_value c.args.action.now))
    (sym (ap (option_map (λ live. live.now)) c.in-Some.is) ∙ c.pool.ensures)
    (c.keeps_look.ensures quiet)
