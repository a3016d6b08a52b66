use Rattle.std.proofs.Common.{◌≡◌, ◌≢◌, ◌-◌, get_or, sym, ◌∙◌, arith, rules}
use Rattle.draw_shapes.proofs.Rows.{less_space, no_space, no_text}
use Rattle.draw_shapes.proofs.shapes.fields.trimmed.Goals as goal
use Rattle.draw_shapes.proofs.shapes.fields.trimmed.Goals.{then-loop-end-test+else-text-end-eq32, else-loop-end-test}

pub loop-end-preserved : goal.loop-end-preserved
loop-end-preserved c =
    let some = c.loop-end-test.true in
    let fits = c.loop-end.invariant.0 in
    let is : get_or c.args.text.now (c.loop-end.end - 1) 0 ≡ 0x20 = search rules in (
      omega (arith, fits),
      less_space c.args.text.now c.loop-end.end some fits is ∙ c.loop-end.invariant.1,
    )

pub returns-clause-is : goal.returns-clause-is
returns-clause-is c =
    let fits = c.loop-end.invariant.0 in
    elim c.loop-end-test.branch [
      | then-loop-end-test+else-text-end-eq32 w ↦
          let other : get_or c.args.text.now (c.loop-end.end - 1) 0 ≢ 0x20 = search rules in
          sym (no_space c.args.text.now c.loop-end.end w.loop-end-test.true fits other) ∙ c.loop-end.invariant.1
      | else-loop-end-test w ↦
          let none : c.loop-end.end ≡ 0 = omega (arith, w.loop-end-test.false) in
          sym (no_text c.args.text.now c.loop-end.end none) ∙ c.loop-end.invariant.1
    ]
