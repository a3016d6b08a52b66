use Rattle.std.proofs.Common.{◌≡◌, ℕ, ◌+◌, ◌-◌, take, sym, ap, ◌∙◌, arith}
use Rattle.check_needs.specs.TextFields.{columns}
use Rattle.check_needs.proofs.lemmas.Columns.{columns_past-space, columns_past-other}
use Rattle.check_needs.proofs.text_fields.columns.Goals.{then-loop-end-test+else-text-end-eq32, else-loop-end-test}
use Rattle.check_needs.proofs.text_fields.columns.Goals as goal

pub loop-end-preserved : goal.loop-end-preserved
loop-end-preserved c =
    let one : c.loop-end.end - 1 + 1 ≡ c.loop-end.end = omega arith in (
      omega arith,
      c.loop-end.invariant.1 ∙ ap (λ (k : ℕ). columns (take k c.args.text.now)) (sym one)
          ∙ columns_past-space c.args.text.now (c.loop-end.end - 1) (omega arith) c.if-text-end-eq32.true,
    )

pub returns-clause-value : goal.returns-clause-value
returns-clause-value c =
    let text = c.args.text.now in
    elim c.loop-end-test.branch [
      | then-loop-end-test+else-text-end-eq32 w ↦
          let one : c.loop-end.end - 1 + 1 ≡ c.loop-end.end = omega (arith, w.loop-end-test.true) in
          sym (c.loop-end.invariant.1 ∙ ap (λ (k : ℕ). columns (take k c.args.text.now)) (sym one)
          ∙ columns_past-other c.args.text.now (c.loop-end.end - 1) (omega (arith, w.loop-end-test.true)) w.if-text-end-eq32.false ∙ one)
      | else-loop-end-test w ↦
          let none : c.loop-end.end ≡ 0 = omega (arith, w.loop-end-test.false) in
          none ∙ sym (c.loop-end.invariant.1 ∙ ap (λ (k : ℕ). columns (take k c.args.text.now)) none)
    ]
