use Rattle.std.proofs.Common.{sym, subst}
use Rattle.vt_node.specs.Registries.{AreHeardSince}
use Rattle.vt_node.specs.Watches.{heard_of}
use Rattle.vt_node.proofs.watched.WatchedRegistry.reserve.Goals as goal

pub invariant_of-self : goal.invariant_of-self
invariant_of-self c = subst (AreHeardSince c.self.inside.earliest (heard_of c.self.inside.watch)) (sym c.reserve.ensures.sets) c.self.invariant
