use Rattle.std.proofs.Common.{sym, ap, ◌∙◌, arith}
use Rattle.vt_node.specs.Watches.{first_silent_of}
use Rattle.vt_node.specs.Registries.{Watched}
use Rattle.vt_node.specs.Watches.{heard_of}
use Rattle.vt_node.proofs.EarliestTimes.{none-silent_of}
use Rattle.vt_node.proofs.watched.WatchedRegistry.first_silent.Goals as goal

pub returns-then-saturating_sub-le-SILENCE-clause-found : goal.returns-then-saturating_sub-le-SILENCE-clause-found
returns-then-saturating_sub-le-SILENCE-clause-found c =
    let inside = c.self.inside in
    sym (ap (λ (w : Watched). first_silent_of c.args.now (heard_of w.watch) w.sets) (sym c.self.view_is)
    ∙ none-silent_of c.args.now inside.earliest (heard_of inside.watch) inside.registry.sets (omega arith) c.self.invariant)

pub invariant_of-self : goal.invariant_of-self
invariant_of-self c = c.look-found.ensures.earliest

pub returns-clause-found : goal.returns-clause-found
returns-clause-found c =
    c.look-found.ensures.silent ∙ ap (λ (w : Watched). first_silent_of c.args.now (heard_of w.watch) w.sets) c.self.view_is
