use Rattle.std.proofs.Common.{arith}
use Rattle.std.proofs.lemmas.Bool.{ne_eqb}
use Rattle.vt_stores.proofs.StoreMethods.{named_none, named_more}
use Rattle.vt_terminal_tests.proofs.objects.three_numbers.Goals as goal

pub returns : goal.returns
returns c =
    let a = c.object_id.ensures in
    let b = c.object_id-2.ensures in
    let d = c.object_id-3.ensures in
    rw c.in_ok-vec.ensures.items (
    named_more _ _ (omega (arith, a)) (ne_eqb _ _ (λ e. absurd (omega (arith, a, b, e))), (ne_eqb _ _ (λ e. absurd (omega (arith, a, d, e))), tt))
    (named_more _ _ (omega (arith, b)) (ne_eqb _ _ (λ e. absurd (omega (arith, b, d, e))), tt) (named_more _ _ (omega (arith, d)) tt named_none))
    )
