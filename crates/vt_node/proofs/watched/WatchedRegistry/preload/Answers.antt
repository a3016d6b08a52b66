use Rattle.std.proofs.Common.{sym, subst}
use Rattle.vt_node.specs.Registries.{AreHeardSince}
use Rattle.vt_node.specs.Watches.{heard_of}
use Rattle.vt_node.proofs.EarliestTimes.{since-preloaded}
use Rattle.vt_node.proofs.watched.WatchedRegistry.preload.Goals as goal

pub invariant_of-self : goal.invariant_of-self
invariant_of-self c =
    let inside = c.self.inside in
    subst (AreHeardSince inside.earliest (heard_of inside.watch)) (sym c.in_err-preload.ensures.err) c.self.invariant

pub invariant_of-self-2 : goal.invariant_of-self-2
invariant_of-self-2 c =
    let inside = c.self.inside in
    since-preloaded inside.earliest (heard_of inside.watch) (heard_of c.preload-2.new.self) c.args.address inside.registry.sets c.preload.new.self.sets
    c.in_ok-preload.ensures.ok c.preload-2.ensures c.self.invariant
