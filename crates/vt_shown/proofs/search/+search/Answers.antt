use Rattle.std.proofs.Common.{◌≡◌, ◌<◌, ◌≤◌, ◌+◌, ◌∷◌, [], ◌++◌, ℕ, Bool, true, false, List, Option, Some, None, length, set, get_or, map, sym, ap, subst, ◌∙◌, arith, refl, take}
use Rattle.std.proofs.lemmas.List.{get_or-set_other, get_or-set_same, length-map, length-set}
use Rattle.std.specs.Prelude.{slice_index, slice_index_or}
use Rattle.std.specs.Option.{option_to_list}
use Rattle.vt_kinds.specs.declared.entries.Child.{Child}
use Rattle.vt_kinds.specs.Records.{seen}
use Rattle.vt_chains.specs.Depths.{ids_of}
use Rattle.vt_chains.proofs.IdIndices.{within}
use Rattle.vt_shown.specs.ShownMarks.{Searched, MarksShown}
use Rattle.vt_shown.specs.ShownElements.{drawn_in, ids_in}
use Rattle.vt_shown.proofs.Searches.{all_ids, child_among, child_drawn, drawing_searched, drawing_shown, item_drawn, level_of, resolved_below, resolved_marked, parts_of, resolved_nothing, searched_next, searched_none, searched_within, shown_next, shown_none, shown_one, shown_part, shown_within}
use Rattle.vt_shown.proofs.search.+search.Goals as goal

pub search_drawing-search_id-requires : goal.search_drawing-search_id-requires
search_drawing-search_id-requires g t c κs within =
    let m = g.S.Store.contents c.args.store.now in
    let o = seen c.entry.result.1.now in
    let children = c.drawn_parts-item.result.0.now in
    let item = c.drawn_parts-item.result.1 in
    let i = c.loop-child.child-index in
    let measure = c.decreases in
    let parts = parts_of m c.entry.result.0 o children item item c.entry.ensures.object c.drawn_parts-item.ensures refl in
    let listed = child_drawn m c.entry.result.0 i c.child-item.result.id children (option_to_list item) parts c.loop-child-test.true
    (child_among children i c.child-item.result c.loop-child-test.true c.child-item.is) in (
      omega (arith, measure),
      (
        within,
        (
          c.requires.levels,
          (
            c.loop-child.auto.marks ∙ c.requires.marks,
            (
              c.requires.null,
              resolved_below m c.args.levels.now c.args.index c.entry.result.0 c.child-item.result.id c.requires.levels c.requires.null c.entry.ensures.stands listed,
            ),
          ),
        ),
      ),
    )

pub search_drawing-returns-then-search_id-clause-shown : goal.search_drawing-returns-then-search_id-clause-shown
search_drawing-returns-then-search_id-clause-shown g t c =
    let m = g.S.Store.contents c.args.store.now in
    let o = seen c.entry.result.1.now in
    let children = c.drawn_parts-item.result.0.now in
    let item = c.drawn_parts-item.result.1 in
    let i = c.loop-child.child-index in
    let long = length-map children (λ (child : Child). child.id) in
    let lt = c.loop-child-test.true in
    drawing_shown m c.args.index c.entry.result.0 children (option_to_list item) c.entry.ensures.stands
    (parts_of m c.entry.result.0 o children item item c.entry.ensures.object c.drawn_parts-item.ensures refl)
    c.args.marks.now c.search_id.new.marks c.search_id.new.marks
    (shown_part m (ids_in children) (i + 1) c.args.marks.now c.search_id.new.marks
    (shown_next m (ids_in children) i c.child-item.result.id c.args.marks.now c.loop-child.marks c.search_id.new.marks (omega (arith, lt, long))
    (sym (child_among children i c.child-item.result lt c.child-item.is)) c.loop-child.invariant.shown c.search_id.ensures.shown))
    (shown_none m (option_to_list item) c.search_id.new.marks)

pub search_drawing-loop-child-preserved : goal.search_drawing-loop-child-preserved
search_drawing-loop-child-preserved g t c =
    let m = g.S.Store.contents c.args.store.now in
    let children = c.drawn_parts-item.result.0.now in
    let i = c.loop-child.child-index in
    let long = length-map children (λ (child : Child). child.id) in
    let lt = c.loop-child-test.true in
    let inside : i < length (ids_in children) = omega (arith, lt, long) in
    let is = sym (child_among children i c.child-item.result lt c.child-item.is) in
    record {
      shown = shown_next m (ids_in children) i c.child-item.result.id c.args.marks.now c.loop-child.marks c.search_id.new.marks inside is c.loop-child.invariant.shown c.search_id.ensures.shown;
      all = searched_next m (ids_in children) i c.child-item.result.id c.args.marks.now c.loop-child.marks c.search_id.new.marks inside is c.loop-child.invariant.all
          (c.search_id.ensures.all c.if-search_id.false);
      not_found = c.search_id.ensures.not_found c.if-search_id.false ∙ c.loop-child.invariant.not_found;
    }

pub search_drawing-search_id-requires-in-Some : goal.search_drawing-search_id-requires-in-Some
search_drawing-search_id-requires-in-Some g t c κs within =
    let m = g.S.Store.contents c.args.store.now in
    let o = seen c.entry.result.1.now in
    let children = c.drawn_parts-item.result.0.now in
    let measure = c.decreases in
    let parts = parts_of m c.entry.result.0 o children c.drawn_parts-item.result.1 (Some c.in-Some.item) c.entry.ensures.object c.drawn_parts-item.ensures c.in-Some.is in (
      omega (arith, measure),
      (
        within,
        (
          c.requires.levels,
          (
            c.loop-child.auto.marks ∙ c.requires.marks,
            (
              c.requires.null,
              resolved_below m c.args.levels.now c.args.index c.entry.result.0 c.in-Some.item c.requires.levels c.requires.null c.entry.ensures.stands
                  (item_drawn m c.entry.result.0 c.in-Some.item children parts),
            ),
          ),
        ),
      ),
    )

pub search_drawing-returns-in-Some-clause-shown : goal.search_drawing-returns-in-Some-clause-shown
search_drawing-returns-in-Some-clause-shown g t c =
    let m = g.S.Store.contents c.args.store.now in
    let o = seen c.entry.result.1.now in
    let children = c.drawn_parts-item.result.0.now in
    let parts = parts_of m c.entry.result.0 o children c.drawn_parts-item.result.1 (Some c.in-Some.item) c.entry.ensures.object c.drawn_parts-item.ensures c.in-Some.is in
    drawing_shown m c.args.index c.entry.result.0 children (c.in-Some.item ∷ []) c.entry.ensures.stands parts c.args.marks.now c.loop-child.marks c.search_id-in-Some.new.marks
    (shown_part m (ids_in children) c.loop-child.child-index c.args.marks.now c.loop-child.marks c.loop-child.invariant.shown) c.search_id-in-Some.ensures.shown

pub search_drawing-returns-in-Some-clause-all : goal.search_drawing-returns-in-Some-clause-all
search_drawing-returns-in-Some-clause-all g t c none =
    let m = g.S.Store.contents c.args.store.now in
    let o = seen c.entry.result.1.now in
    let children = c.drawn_parts-item.result.0.now in
    let parts = parts_of m c.entry.result.0 o children c.drawn_parts-item.result.1 (Some c.in-Some.item) c.entry.ensures.object c.drawn_parts-item.ensures c.in-Some.is in
    let long = length-map children (λ (child : Child). child.id) in
    let end = c.loop-child-test.false in
    drawing_searched m c.args.index c.entry.result.0 children (c.in-Some.item ∷ []) c.entry.ensures.stands parts c.args.marks.now c.loop-child.marks c.search_id-in-Some.new.marks
    (subst (λ (xs : List ℕ). Searched m xs c.args.marks.now c.loop-child.marks) (all_ids (ids_in children) c.loop-child.child-index (omega (arith, long, end))) c.loop-child.invariant.all)
    (c.search_id-in-Some.ensures.all none)

pub search_drawing-returns-in-None-clause-shown : goal.search_drawing-returns-in-None-clause-shown
search_drawing-returns-in-None-clause-shown g t c =
    let m = g.S.Store.contents c.args.store.now in
    let o = seen c.entry.result.1.now in
    let children = c.drawn_parts-item.result.0.now in
    let parts = parts_of m c.entry.result.0 o children c.drawn_parts-item.result.1 None c.entry.ensures.object c.drawn_parts-item.ensures c.in-None.is in
    drawing_shown m c.args.index c.entry.result.0 children [] c.entry.ensures.stands parts c.args.marks.now c.loop-child.marks c.loop-child.marks
    (shown_part m (ids_in children) c.loop-child.child-index c.args.marks.now c.loop-child.marks c.loop-child.invariant.shown) (shown_none m [] c.loop-child.marks)

pub search_drawing-returns-in-None-clause-all : goal.search_drawing-returns-in-None-clause-all
search_drawing-returns-in-None-clause-all g t c none =
    let m = g.S.Store.contents c.args.store.now in
    let o = seen c.entry.result.1.now in
    let children = c.drawn_parts-item.result.0.now in
    let parts = parts_of m c.entry.result.0 o children c.drawn_parts-item.result.1 None c.entry.ensures.object c.drawn_parts-item.ensures c.in-None.is in
    let long = length-map children (λ (child : Child). child.id) in
    let end = c.loop-child-test.false in
    drawing_searched m c.args.index c.entry.result.0 children [] c.entry.ensures.stands parts c.args.marks.now c.loop-child.marks c.loop-child.marks
    (subst (λ (xs : List ℕ). Searched m xs c.args.marks.now c.loop-child.marks) (all_ids (ids_in children) c.loop-child.child-index (omega (arith, long, end))) c.loop-child.invariant.all)
    (searched_none m c.loop-child.marks)

pub search_id-returns-in_default-clause-all : goal.search_id-returns-in_default-clause-all
search_id-returns-in_default-clause-all g t c none = resolved_nothing (g.S.Store.contents c.args.store.now) c.args.id c.args.marks.now c.in_default.ensures.none

pub search_id-bounds-marks-index : goal.search_id-bounds-marks-index
search_id-bounds-marks-index g t c =
    let found = c.in-Some.ensures.some in
    let inside = within (ids_of (g.S.Store.contents c.args.store.now)) c.in-Some.index found.0 found.1 in
    let each = c.requires.marks in
    omega (arith, inside, each)

pub search_id-bounds-marks-index-2 : goal.search_id-bounds-marks-index-2
search_id-bounds-marks-index-2 g t c =
    let found = c.in-Some.ensures.some in
    let inside = within (ids_of (g.S.Store.contents c.args.store.now)) c.in-Some.index found.0 found.1 in
    let each = c.requires.marks in
    omega (arith, inside, each)

pub search_id-returns-then-index-sought-clause-shown : goal.search_id-returns-then-index-sought-clause-shown
search_id-returns-then-index-sought-clause-shown g t c =
    let found = c.in-Some.ensures.some in
    let inside = within (ids_of (g.S.Store.contents c.args.store.now)) c.in-Some.index found.0 found.1 in
    let each = c.requires.marks in
    shown_one (g.S.Store.contents c.args.store.now) found.0 c.in-Some.index c.args.marks.now (omega (arith, inside, each)) found.1 c.args.id found.2

pub search_id-returns-then-index-sought-clause-found : goal.search_id-returns-then-index-sought-clause-found
search_id-returns-then-index-sought-clause-found g t c met =
    let found = c.in-Some.ensures.some in
    let inside = within (ids_of (g.S.Store.contents c.args.store.now)) c.in-Some.index found.0 found.1 in
    let each = c.requires.marks in
    subst (λ (k : ℕ). slice_index_or (set c.args.marks.now c.in-Some.index true) k false ≡ true) c.if-index-sought.true
    (get_or-set_same c.args.marks.now c.in-Some.index true false (omega (arith, inside, each)))

pub search_id-search_drawing-requires : goal.search_id-search_drawing-requires
search_id-search_drawing-requires g t c κs life =
    let m = g.S.Store.contents c.args.store.now in
    let found = c.in-Some.ensures.some in
    let inside = within (ids_of m) c.in-Some.index found.0 found.1 in
    let each = c.requires.levels.each in
    let less = level_of m c.args.levels.now c.in-Some.index found.0 c.args.level found.1 (c.requires.below found.0 found.2) in
    let measure = c.decreases in (
      omega (arith, measure, less),
      (life, (c.requires.levels, (length-set c.args.marks.now c.in-Some.index true ∙ c.requires.marks, (omega (arith, inside, each), c.requires.null)))),
    )

pub search_id-returns-clause-shown : goal.search_id-returns-clause-shown
search_id-returns-clause-shown g t c =
    let m = g.S.Store.contents c.args.store.now in
    let found = c.in-Some.ensures.some in
    let inside = within (ids_of m) c.in-Some.index found.0 found.1 in
    let each = c.requires.marks in
    shown_within m found.0 c.in-Some.index c.args.marks.now (omega (arith, inside, each)) found.1 c.args.id c.search_drawing.new.marks found.2
    (c.search_drawing.ensures.shown found.0 found.1)

pub search_id-returns-clause-all : goal.search_id-returns-clause-all
search_id-returns-clause-all g t c none =
    let m = g.S.Store.contents c.args.store.now in
    let found = c.in-Some.ensures.some in
    let inside = within (ids_of m) c.in-Some.index found.0 found.1 in
    let each = c.requires.marks in
    searched_within m found.0 c.in-Some.index c.args.marks.now (omega (arith, inside, each)) found.1 c.args.id c.search_drawing.new.marks found.2
    (c.search_drawing.ensures.all none found.0 found.1)

pub search_id-returns-clause-not_found : goal.search_id-returns-clause-not_found
search_id-returns-clause-not_found g t c none =
    c.search_drawing.ensures.not_found none ∙ get_or-set_other c.args.marks.now c.in-Some.index c.args.sought true false (λ same. c.if-index-sought.false (sym same))
