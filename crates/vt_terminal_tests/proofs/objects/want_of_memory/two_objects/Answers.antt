use Rattle.std.proofs.Common.{arith}
use Rattle.std.proofs.lemmas.Bool.{ne_eqb}
use Rattle.vt_stores.proofs.StoreMethods.{named_none, named_more}
use Rattle.vt_terminal_tests.proofs.objects.want_of_memory.two_objects.Goals as goal

pub returns : goal.returns
returns c =
    let a = c.object_id.ensures in
    let b = c.object_id-2.ensures in
    rw c.in_ok-vec.ensures.items (
    named_more _ _ (omega (arith, a)) (ne_eqb _ _ (λ e. absurd (omega (arith, a, b, e))), tt) (named_more _ _ (omega (arith, b)) tt named_none)
    )
