use Rattle.std.proofs.Common.{ℕ, ◌++◌, Bool, map, ap, ◌∙◌}
use Rattle.std.specs.Prelude.{filter, nat_lt, slice_index}
use Rattle.vt_chains.specs.Limits.{terminal}
use Rattle.vt_stores.specs.Shapes.{Fixed, shape_of}
use Rattle.vt_verify.specs.Orders.{named_macros}
use Rattle.vt_verify.specs.Triggers.{run_by_name}
use Rattle.check_inspect.specs.Costs.{macro_finding}
use Rattle.check_inspect.proofs.lemmas.Objects.{over_shape, macros_total}
use Rattle.check_inspect.proofs.lemmas.OverBudget.{same_tests}
use Rattle.check_inspect.proofs.triggers.put_macros_over.Goals as goal

pub loop-id-init : goal.loop-id-init
loop-id-init c =
    let is = c.entries-id-items.ensures.all in
    let shape = shape_of c.args.objects.now in
    let test : ℕ → Bool = λ m. nat_lt terminal.steps (slice_index c.args.costs.now m) in (
      is,
      ap (λ l. c.args.findings.now.items ++ l)
          (over_shape c.entries-id-items.result.now c.args.objects.now is (λ (e : ℕ × Fixed). map macro_finding (filter test (run_by_name e.0 e.1)))
          ∙ macros_total test macro_finding shape
          ∙ ap (λ (t : ℕ → Bool). map macro_finding (filter t (named_macros shape))) (same_tests shape c.args.costs.now c.requires)),
    )
