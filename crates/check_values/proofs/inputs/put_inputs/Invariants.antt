use Rattle.std.proofs.Common.{◌≡◌, ◌++◌, drop}
use Rattle.check_values.specs.Inputs.{if_input}
use Rattle.check_values.specs.Listed.{each_from}
use Rattle.check_values.proofs.inputs.put_inputs.Given as goal

abbrev pub invariant-loop-index : goal.invariant-loop-index
invariant-loop-index l =
    l.fn.found.items ++ each_from (if_input l.objects l.parent) 0 l.children ≡ l.found.items ++ each_from (if_input l.objects l.parent) l.index (drop l.index l.children)
