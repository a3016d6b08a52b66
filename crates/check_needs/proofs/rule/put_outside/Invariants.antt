use Rattle.std.proofs.Common.{◌≡◌, ◌++◌, map, drop}
use Rattle.std.specs.Prelude.{filter, Some}
use Rattle.check_needs.specs.declared.warning.Warning.TheVariants as warnings
use Rattle.check_needs.specs.Elements.{elements_from, is_outside}
use Rattle.check_needs.specs.Warnings.{outside_of}
use Rattle.check_needs.proofs.rule.put_outside.Given as goal

abbrev pub invariant-loop-child : goal.invariant-loop-child
invariant-loop-child l =
    (l.index ≡ l.child-index)
    × (l.fn.found.items ++ outside_of l.objects l.parent (Some (l.area, l.children))
    ≡ l.found.items ++ map (λ e. warnings.Outside e l.area) (filter (is_outside l.area) (elements_from l.objects l.parent l.index (drop l.child-index l.children))))
