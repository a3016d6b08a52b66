use Rattle.check_values.specs.Inputs.{if_taken}
use Rattle.check_values.proofs.Each.{put_each}
use Rattle.check_values.proofs.inputs.put_taken.Goals as goal

pub loop-index-preserved : goal.loop-index-preserved
loop-index-preserved c =
    put_each (if_taken c.args.objects.now c.args.mask c.args.keys.now) c.args.keys.now _ c.loop-index.found.items c.put_if_taken.new.found.items c.loop-index.index c.index-keys-index.result
    c.loop-index-test.true c.index-keys-index.is c.loop-index.invariant c.in_ok-put_if_taken.ensures
