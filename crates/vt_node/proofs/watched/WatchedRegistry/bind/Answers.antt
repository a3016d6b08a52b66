use Rattle.std.proofs.Common.{refl, sym, subst}
use Rattle.vt_names.specs.Registry.{set_at}
use Rattle.vt_node.specs.Registries.{AreHeardSince}
use Rattle.vt_node.specs.Watches.{heard_of}
use Rattle.vt_node.proofs.EarliestTimes.{since-binding}
use Rattle.vt_node.proofs.watched.WatchedRegistry.bind.Goals as goal

pub invariant_of-self : goal.invariant_of-self
invariant_of-self c =
    let inside = c.self.inside in
    let heard = heard_of inside.watch in
    let sets = inside.registry.sets in
    subst (AreHeardSince inside.earliest heard) (sym c.bind.ensures.sets)
    (since-binding inside.earliest heard c.args.address c.args.name sets (set_at c.args.address sets) refl c.self.invariant)
