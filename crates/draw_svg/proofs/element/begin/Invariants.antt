use Rattle.std.proofs.Common.{◌≡◌, ◌++◌, drop}
use Rattle.std.specs.Prelude.{codes}
use Rattle.std.specs.List.{flat_map}
use Rattle.draw_svg.specs.Attributes.{attribute_text}
use Rattle.draw_svg.specs.Elements.{name}
use Rattle.draw_svg.proofs.element.begin.Given as goal

abbrev pub invariant-loop-attribute : goal.invariant-loop-attribute
invariant-loop-attribute l =
    l.out.items ++ flat_map attribute_text (drop l.attribute-index l.attributes)
    ≡ l.fn.out.items ++ (codes "<" ++ (name l.fn.element ++ flat_map attribute_text l.attributes))
