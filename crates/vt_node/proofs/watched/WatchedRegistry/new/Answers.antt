use Rattle.std.proofs.Common.{◌-◌, ◌^◌, List, sym, subst}
use Rattle.vt_names.specs.Registry.{Set}
use Rattle.vt_node.specs.Registries.{AreHeardSince}
use Rattle.vt_node.specs.Watches.{heard_of}
use Rattle.vt_node.proofs.watched.WatchedRegistry.new.Goals as goal

pub invariant_of-result : goal.invariant_of-result
invariant_of-result c = subst (λ (l : List Set). AreHeardSince (2 ^ 64 - 1) (heard_of c.new-2.result) l) (sym c.new.ensures) tt
