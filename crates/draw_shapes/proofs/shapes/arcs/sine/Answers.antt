use Rattle.std.proofs.Common.{◌≤◌, ◌∙◌, ℕ, get_or, ap, sym, subst}
use Rattle.draw_shapes.specs.Arcs.{sines}
use Rattle.draw_shapes.proofs.Arcs.{sine_at, sine_most}
use Rattle.draw_shapes.proofs.shapes.arcs.sine.Goals as goal

pub returns-clause-is : goal.returns-clause-is
returns-clause-is c = ap (λ (i : ℕ). get_or sines i 0) c.from.ensures ∙ sym (sine_at c.args.step)

pub returns-clause-most : goal.returns-clause-most
returns-clause-most c =
    subst (λ (n : ℕ). n ≤ 10000) (sym (ap (λ (i : ℕ). get_or sines i 0) c.from.ensures ∙ sym (sine_at c.args.step))) (sine_most c.args.step)
