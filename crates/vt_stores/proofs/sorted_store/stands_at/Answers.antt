use Rattle.std.proofs.Common.{◌<◌, ◌∙◌, length, sym, ap}
use Rattle.std.proofs.lemmas.Bool.{eqb-true, ltb-true}
use Rattle.std.specs.Ordering.{nat_cmp}
use Rattle.vt_stores.proofs.SortedEntries.{equal}
use Rattle.vt_stores.proofs.BinarySearch.{place_at}
use Rattle.vt_stores.proofs.sorted_store.stands_at.Goals as goal

pub returns-then-eq : goal.returns-then-eq
returns-then-eq c =
    let es = c.args.entries.now in
    let entry = c.in_ok-get.field-0.now in
    let lt : c.args.place < length es = ltb-true _ _ (sym c.in_ok-get.ensures.lookup.0) in
    let same = eqb-true entry.0 c.args.id (sym c.eq.ensures ∙ c.if-eq.true) in
    let is = c.in_ok-get.ensures.lookup.1 in
    place_at es c.args.id c.args.place entry c.requires.rising lt (ap (λ e. nat_cmp e.0 c.args.id) (sym is) ∙ ap (λ id. nat_cmp id c.args.id) same ∙ equal c.args.id)
