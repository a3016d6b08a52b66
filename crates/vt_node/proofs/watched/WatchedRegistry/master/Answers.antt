use Rattle.std.proofs.Common.{sym, subst}
use Rattle.vt_node.specs.Registries.{AreHeardSince}
use Rattle.vt_node.specs.Watches.{heard_of}
use Rattle.vt_node.proofs.EarliestTimes.{since-mastered}
use Rattle.vt_node.proofs.watched.WatchedRegistry.master.Goals as goal

pub invariant_of-self : goal.invariant_of-self
invariant_of-self c =
    let inside = c.self.inside in
    let heard = heard_of inside.watch in
    subst (λ e. AreHeardSince e heard c.master.new.self.sets) (sym c.sooner-self-inside.ensures)
    (since-mastered inside.earliest heard c.args.address c.args.holder c.args.count inside.registry.sets c.master.new.self.sets c.last_heard.result c.master.result
    c.last_heard.ensures c.self.invariant c.master.ensures.sets c.master.ensures.err)
