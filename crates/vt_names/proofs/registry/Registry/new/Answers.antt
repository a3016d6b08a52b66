use Rattle.std.proofs.Common.{sym, subst}
use Rattle.vt_names.specs.Registry.{AreFiled}
use Rattle.vt_names.proofs.registry.Registry.new.Goals as goal

pub invariant_of-result : goal.invariant_of-result
invariant_of-result c = subst AreFiled (sym c.new.ensures.empty) tt
