use Rattle.std.proofs.Common.{◌≡◌, ◌++◌, drop}
use Rattle.check_values.specs.Inputs.{if_taken}
use Rattle.check_values.specs.Listed.{each_from}
use Rattle.check_values.proofs.inputs.put_taken.Given as goal

abbrev pub invariant-loop-index : goal.invariant-loop-index
invariant-loop-index l =
    l.fn.found.items ++ each_from (if_taken l.objects l.mask l.keys) 0 l.keys ≡ l.found.items ++ each_from (if_taken l.objects l.mask l.keys) l.index (drop l.index l.keys)
