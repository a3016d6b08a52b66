use Rattle.std.proofs.Common.{sym, subst}
use Rattle.vt_can.specs.transport.FirstTimes.{IsFirstTime}
use Rattle.vt_can.proofs.lemmas.transport.FirstTimes.{first_either}
use Rattle.vt_node.specs.Nodes.{HasOverdue}
use Rattle.vt_node.specs.Watches.{heard_of, SomeSilent}
use Rattle.vt_server.specs.frame.Deadlines.{IsLate}
use Rattle.vt_server.specs.States.{state_of}
use Rattle.vt_server.proofs.terminal.Terminal.late_from.Goals as goal

pub returns : goal.returns
returns c =
    let t = c.args.self.now in
    subst (IsFirstTime (IsLate (state_of t))) (sym c.earlier.ensures)
    (first_either (HasOverdue t.node) (SomeSilent (heard_of t.registry.watch) t.registry.sets) _ _ c.overdue_from.ensures c.silent_from.ensures)
