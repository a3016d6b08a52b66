use Rattle.vt_node.specs.Watches.{heard_of}
use Rattle.vt_node.proofs.EarliestTimes.{since-heard}
use Rattle.vt_node.proofs.watched.WatchedRegistry.note_frame.Goals as goal

pub invariant_of-self : goal.invariant_of-self
invariant_of-self c =
    let inside = c.self.inside in
    since-heard inside.earliest _ (heard_of inside.watch) (heard_of c.note_frame.new.self) c.args.address c.args.now inside.registry.sets
    c.min-self-inside.ensures c.note_frame.ensures c.self.invariant
