use Rattle.std.proofs.Common.{◌++◌, ap, ◌∙◌}
use Rattle.std.proofs.Common.{ℕ}
use Rattle.std.specs.List.{flat_map}
use Rattle.vt_stores.specs.Shapes.{Fixed, shape_of}
use Rattle.vt_verify.specs.Macros.{named_macro, pieces_of}
use Rattle.check_inspect.specs.Findings.{piece_findings}
use Rattle.check_inspect.proofs.lemmas.Objects.{over_shape, commands_total}
use Rattle.check_inspect.proofs.macros.put_commands.Goals as goal

pub loop-id-init : goal.loop-id-init
loop-id-init c =
    let is = c.entries-id-items.ensures.all in
    (is, ap (λ l. c.args.findings.now.items ++ l) (over_shape c.entries-id-items.result.now c.args.objects.now is (λ (e : ℕ × Fixed). flat_map (piece_findings c.args.rule (shape_of c.args.objects.now)) (flat_map pieces_of (named_macro e))) ∙ commands_total c.args.rule (shape_of c.args.objects.now)))
