use Rattle.std.proofs.Common.{◌++◌, Option, ap, ◌∙◌, arith}
use Rattle.std.specs.Option.{option_to_list}
use Rattle.check_needs.specs.declared.warning.PlacedElement.{PlacedElement}
use Rattle.check_needs.proofs.lemmas.OutsideElements.{put_child, put_of}
use Rattle.check_needs.proofs.rule.put_outside.Goals as goal

pub loop-child-preserved : goal.loop-child-preserved
loop-child-preserved c = (
  omega (arith, c.loop-child.invariant.0),
  put_child c.args.objects.now c.args.parent c.args.area c.args.children.now _ c.loop-child.found.items c.put_if_outside.new.found.items c.loop-child.index c.loop-child.child-index
      c.child-item.result c.loop-child-test.true c.child-item.is c.loop-child.invariant.0 c.loop-child.invariant.1
      (c.in_ok-put_if_outside.ensures ∙ ap (λ (e : Option PlacedElement). c.loop-child.found.items ++ put_of c.args.area (option_to_list e)) c.element.ensures.element),
)
