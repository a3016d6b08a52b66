use Rattle.std.proofs.Common.{List, ◌++◌, ap₂}
use Rattle.vt_stores.specs.Shapes.{shape_of}
use Rattle.check_inspect.specs.References.{passes_at, own_references_at}
use Rattle.check_inspect.proofs.lemmas.Objects.{failing_in_shape}
use Rattle.check_inspect.proofs.targets.failing_targets.Goals as goal

pub loop-id-init : goal.loop-id-init
loop-id-init c =
    let is = c.entries-id-items.ensures.all in
    (is, ap₂ (λ (a b : List _). a ++ b) c.new-found.ensures.items (failing_in_shape c.entries-id-items.result.now c.args.objects.now is (passes_at c.args.test (shape_of c.args.objects.now)) (own_references_at (shape_of c.args.objects.now))))
