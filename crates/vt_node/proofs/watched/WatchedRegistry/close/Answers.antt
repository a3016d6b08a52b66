use Rattle.std.proofs.Common.{sym, subst}
use Rattle.vt_node.specs.Registries.{AreHeardSince}
use Rattle.vt_node.specs.Watches.{heard_of}
use Rattle.vt_node.proofs.EarliestTimes.{since-without}
use Rattle.vt_node.proofs.watched.WatchedRegistry.close.Goals as goal

pub invariant_of-self : goal.invariant_of-self
invariant_of-self c =
    let inside = c.self.inside in
    let heard = heard_of inside.watch in
    subst (AreHeardSince inside.earliest heard) (sym c.close.ensures.sets)
    (since-without inside.earliest heard c.args.address inside.registry.sets c.self.invariant)
