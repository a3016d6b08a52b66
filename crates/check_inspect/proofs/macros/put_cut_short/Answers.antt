use Rattle.std.proofs.Common.{◌++◌, map, ap, ◌∙◌}
use Rattle.std.proofs.Common.{ℕ}
use Rattle.vt_stores.specs.Shapes.{Fixed, shape_of}
use Rattle.vt_verify.specs.Macros.{named_macro, is_whole}
use Rattle.check_inspect.specs.declared.finding.Finding.TheVariants.{MacroBytes}
use Rattle.check_inspect.specs.Lists.{all_failing}
use Rattle.check_inspect.proofs.lemmas.Objects.{over_shape, cut_total}
use Rattle.check_inspect.proofs.macros.put_cut_short.Goals as goal

pub loop-id-init : goal.loop-id-init
loop-id-init c =
    let is = c.entries-id-items.ensures.all in
    (is, ap (λ l. c.args.findings.now.items ++ l) (over_shape c.entries-id-items.result.now c.args.objects.now is (λ (e : ℕ × Fixed). map (λ m. MacroBytes m.0) (all_failing is_whole (named_macro e))) ∙ cut_total (shape_of c.args.objects.now)))
