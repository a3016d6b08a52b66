use Rattle.std.proofs.Common.{take}
use Rattle.check_inspect.specs.Missing.{AreMissingIds}
use Rattle.check_inspect.proofs.inclusions.missing_ids.Given as goal

abbrev pub invariant-loop-found : goal.invariant-loop-found
invariant-loop-found l = AreMissingIds (take l.found-index l.absent) l.ids.keys
