use Rattle.std.proofs.Common.{take}
use Rattle.std.specs.List.{AllByRecursion}
use Rattle.vt_writing.specs.Values.{Fitting}
use Rattle.vt_writing.proofs.value.each_fits.Given as goal

abbrev pub invariant-loop-value : goal.invariant-loop-value
invariant-loop-value l = AllByRecursion Fitting (take l.value-index l.values)
