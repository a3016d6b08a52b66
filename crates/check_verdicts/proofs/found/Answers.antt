use Rattle.std.proofs.Common.{◌≡◌, ◌∙◌, ap, map}
use Rattle.check_verdicts.proofs.Results.{ok_as}
use Rattle.check_verdicts.specs.Findings.{AreFindingsOf, told}
use Rattle.check_verdicts.proofs.found.Goals as goal

pub returns : goal.returns
returns c =
    let i = c.in_ok-inspection.inspection in
    ok_as c.all_told.result
    (λ all. all.items ≡ map told c.deref.result.now)
    (λ all. AreFindingsOf c.args.bytes.now all.items)
    (λ all same. (i, (c.in_ok-inspection.ensures, same ∙ ap (map told) c.deref.ensures.value)))
    c.all_told.ensures
