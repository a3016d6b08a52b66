use Rattle.std.specs.List.{AllZip}
use Rattle.std.specs.Prelude.{map}
use Rattle.std.specs.Map.Iter.{deref_pair}
use Rattle.log_reach.specs.Reports.{TellsOf}
use Rattle.log_reach.proofs.reach.Reach.sets.Given as goal

abbrev pub invariant-loop-address : goal.invariant-loop-address
invariant-loop-address l = AllZip (TellsOf l.self.shown_masks) (map deref_pair l.yielded) l.sets.items
