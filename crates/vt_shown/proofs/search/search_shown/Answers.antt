use Rattle.std.proofs.Common.{◌∙◌, ap, subst, sym, List, ℕ}
use Rattle.vt_shown.specs.ShownMarks.{MarksShown, Searched}
use Rattle.vt_shown.specs.ShownElements.{keys_of, soft_keys}
use Rattle.std.specs.FinMap as finite
use Rattle.vt_shown.proofs.Searches.{all_shown, cleared, keys_shown, mask_shown, none_shown}
use Rattle.vt_shown.proofs.search.search_shown.Goals as goal

pub returns-then-search_mask-clause-some : goal.returns-then-search_mask-clause-some
returns-then-search_mask-clause-some g c =
    let m = g.S.Store.contents c.args.store.now in
    mask_shown m c.args.mask c.fill.new.self c.search_mask.new.marks
    (none_shown m c.args.mask c.fill.new.self (c.fill.ensures.len ∙ c.requires.marks) (cleared _ _ (c.fill.ensures.after (λ y is. is)))) c.search_mask.ensures.shown

pub returns-clause-some : goal.returns-clause-some
returns-clause-some g c =
    let m = g.S.Store.contents c.args.store.now in
    let is = ap (λ (id : ℕ). keys_of (finite.get m id)) c.soft_key_mask-keys.ensures.keys in
    keys_shown m c.args.mask c.search_mask.new.marks c.search_soft_keys.new.marks
    (mask_shown m c.args.mask c.fill.new.self c.search_mask.new.marks
    (none_shown m c.args.mask c.fill.new.self (c.fill.ensures.len ∙ c.requires.marks) (cleared _ _ (c.fill.ensures.after (λ y is. is)))) c.search_mask.ensures.shown)
    (subst (λ (xs : List ℕ). MarksShown m xs c.search_mask.new.marks c.search_soft_keys.new.marks) is c.search_soft_keys.ensures.shown)

pub returns-clause-all : goal.returns-clause-all
returns-clause-all g c none =
    let m = g.S.Store.contents c.args.store.now in
    let is = ap (λ (id : ℕ). keys_of (finite.get m id)) c.soft_key_mask-keys.ensures.keys in
    all_shown m c.args.mask c.fill.new.self c.search_mask.new.marks c.search_soft_keys.new.marks (cleared _ _ (c.fill.ensures.after (λ y clear. clear)))
    (c.search_mask.ensures.all c.if-search_mask.false)
    (subst (λ (xs : List ℕ). Searched m xs c.search_mask.new.marks c.search_soft_keys.new.marks) is (c.search_soft_keys.ensures.all none))
    (returns-clause-some g c)
