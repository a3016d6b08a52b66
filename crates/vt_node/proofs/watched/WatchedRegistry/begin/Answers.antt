use Rattle.vt_node.specs.Watches.{heard_of}
use Rattle.vt_node.proofs.EarliestTimes.{since-begun}
use Rattle.vt_node.proofs.watched.WatchedRegistry.begin.Goals as goal

pub invariant_of-self : goal.invariant_of-self
invariant_of-self c =
    let inside = c.self.inside in
    since-begun inside.earliest _ (heard_of inside.watch) (heard_of c.begin.new.self) c.args.now inside.registry.sets
    c.min-self-inside.ensures c.begin.ensures c.self.invariant
