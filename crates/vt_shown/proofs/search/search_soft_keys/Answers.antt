use Rattle.std.proofs.Common.{◌≡◌, ◌∙◌, List, ℕ, ap, subst}
use Rattle.std.specs.FinMap as finite
use Rattle.vt_shown.specs.ShownMarks.{MarksShown}
use Rattle.vt_shown.specs.ShownElements.{keys_of}
use Rattle.vt_shown.proofs.search.search_soft_keys.Goals as goal

pub returns-clause-shown : goal.returns-clause-shown
returns-clause-shown g c =
    let m = g.S.Store.contents c.args.store.now in
    let is : c.as_slice.result.now ≡ keys_of (finite.get m c.args.keys) =
    c.as_slice.ensures.value ∙ ap keys_of (rw c.in-Some-SoftKeyMask.field-0-is at c.in-Some-SoftKeyMask.ensures.value) in
    subst (λ (xs : List ℕ). MarksShown m xs c.args.marks.now c.search_keys.new.marks) is c.search_keys.ensures.shown
