use Rattle.std.proofs.Common.{sym, ◌∙◌, arith}
use Rattle.std.specs.FinMap as finite
use Rattle.vt_effects.proofs.lemmas.order.SlotTests.{entry_passed, entry_failed, none_left}
use Rattle.vt_effects.specs.Replacements.{slot_allows}
use Rattle.vt_effects.proofs.pointers.all_allow.Goals as goal

pub returns-then-not-entry_allows : goal.returns-then-not-entry_allows
returns-then-not-entry_allows g c =
    let m = g.S.Store.contents c.args.store.now in
    sym (c.loop-index.invariant ∙ entry_failed (slot_allows c.args.pointed.now) (finite.entries m) c.loop-index.index (sym c.if-not-entry_allows.ensures))

pub loop-index-preserved : goal.loop-index-preserved
loop-index-preserved g c =
    let m = g.S.Store.contents c.args.store.now in
    c.loop-index.invariant ∙ entry_passed (slot_allows c.args.pointed.now) (finite.entries m) c.loop-index.index (sym c.if-not-entry_allows.ensures)

pub returns : goal.returns
returns g c =
    let m = g.S.Store.contents c.args.store.now in
    let count = c.count-index-end.ensures.count in
    let long = finite.len-entries m in
    let past = c.loop-index-test.false in
    sym (c.loop-index.invariant ∙ none_left (slot_allows c.args.pointed.now) (finite.entries m) c.loop-index.index (omega (arith, count, long, past)))
