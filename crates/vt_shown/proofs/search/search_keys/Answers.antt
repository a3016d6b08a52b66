use Rattle.std.proofs.Common.{◌+◌, arith, sym, ◌∙◌}
use Rattle.std.proofs.lemmas.Grind.{get_or_default_zero}
use Rattle.vt_shown.proofs.Searches.{below_all, searched_next, shown_next, shown_part}
use Rattle.vt_shown.proofs.search.search_keys.Goals as goal

pub search_id-requires-clause-below : goal.search_id-requires-clause-below
search_id-requires-clause-below g c id resolved =
    below_all (g.S.Store.contents c.args.store.now) c.args.levels.now c.key-item.result id c.requires.levels resolved

pub loop-key-preserved : goal.loop-key-preserved
loop-key-preserved g c =
    let m = g.S.Store.contents c.args.store.now in
    let i = c.loop-key.key-index in
    let lt = c.loop-key-test.true in
    let is = c.key-item.is ∙ get_or_default_zero c.args.keys.now i c.key-item.result lt in
    record {
      shown = shown_next m c.args.keys.now i c.key-item.result c.args.marks.now c.loop-key.marks c.search_id.new.marks lt is c.loop-key.invariant.shown c.search_id.ensures.shown;
      all = searched_next m c.args.keys.now i c.key-item.result c.args.marks.now c.loop-key.marks c.search_id.new.marks lt is c.loop-key.invariant.all
          (c.search_id.ensures.all c.if-search_id.false);
      not_found = c.search_id.ensures.not_found c.if-search_id.false ∙ c.loop-key.invariant.not_found;
    }

pub returns-then-search_id-clause-shown : goal.returns-then-search_id-clause-shown
returns-then-search_id-clause-shown g c =
    let m = g.S.Store.contents c.args.store.now in
    let i = c.loop-key.key-index in
    let lt = c.loop-key-test.true in
    let is = c.key-item.is ∙ get_or_default_zero c.args.keys.now i c.key-item.result lt in
    shown_part m c.args.keys.now (i + 1) c.args.marks.now c.search_id.new.marks
    (shown_next m c.args.keys.now i c.key-item.result c.args.marks.now c.loop-key.marks c.search_id.new.marks lt is c.loop-key.invariant.shown c.search_id.ensures.shown)

pub returns-clause-shown : goal.returns-clause-shown
returns-clause-shown g c =
    shown_part (g.S.Store.contents c.args.store.now) c.args.keys.now c.loop-key.key-index c.args.marks.now c.loop-key.marks c.loop-key.invariant.shown
