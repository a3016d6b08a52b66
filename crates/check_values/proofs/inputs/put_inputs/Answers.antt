use Rattle.check_values.specs.Inputs.{if_input}
use Rattle.check_values.proofs.Each.{put_each}
use Rattle.check_values.proofs.inputs.put_inputs.Goals as goal

pub loop-index-preserved : goal.loop-index-preserved
loop-index-preserved c =
    put_each (if_input c.args.objects.now c.args.parent) c.args.children.now _ c.loop-index.found.items c.put_if_input.new.found.items c.loop-index.index c.index-children-index.result
    c.loop-index-test.true c.index-children-index.is c.loop-index.invariant c.in_ok-put_if_input.ensures
