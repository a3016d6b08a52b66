use Rattle.std.proofs.Common.{◌≡◌, ◌+◌, ◌*◌, false, take}
use Rattle.std.specs.Prelude.{slice_index, slice_index_or}
use Rattle.vt_shown.specs.ShownMarks.{Searched, MarksShown}
use Rattle.vt_shown.specs.ShownElements.{ids_in}
use Rattle.vt_shown.proofs.search.+search.Given as goal

abbrev pub decreases-search_drawing : goal.decreases-search_drawing
decreases-search_drawing g l = 2 * slice_index l.levels.now l.index + 1

abbrev pub decreases-search_id : goal.decreases-search_id
decreases-search_id g l = 2 * l.level

abbrev pub invariant-search_drawing-loop-child : goal.invariant-search_drawing-loop-child
invariant-search_drawing-loop-child g l = record {
  shown : MarksShown (g.S.Store.contents l.store) (take l.child-index (ids_in l.children)) l.initial.marks l.marks;
  all : Searched (g.S.Store.contents l.store) (take l.child-index (ids_in l.children)) l.initial.marks l.marks;
  not_found : slice_index_or l.marks l.sought false ≡ slice_index_or l.initial.marks l.sought false;
}
