use Rattle.std.proofs.Common.{List, ◌++◌, ap₂}
use Rattle.vt_stores.specs.Shapes.{shape_of}
use Rattle.vt_verify.specs.declared.reference.Test.TheVariants.{IsThere}
use Rattle.check_inspect.specs.References.{passes_at, slots_at}
use Rattle.check_inspect.proofs.lemmas.Objects.{failing_over}
use Rattle.check_inspect.proofs.references.missing.Goals as goal

pub loop-id-init : goal.loop-id-init
loop-id-init c =
    let is = c.entries-id-items.ensures.all in
    (is, ap₂ (λ (a b : List _). a ++ b) c.new-found.ensures.items (failing_over c.entries-id-items.result.now c.args.objects.now is (passes_at IsThere (shape_of c.args.objects.now)) slots_at))
