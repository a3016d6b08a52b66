use Rattle.std.proofs.Common.{◌≡◌, false, take}
use Rattle.std.specs.Prelude.{slice_index_or}
use Rattle.vt_shown.specs.ShownMarks.{Searched, MarksShown}
use Rattle.vt_shown.proofs.search.search_keys.Given as goal

abbrev pub invariant-loop-key : goal.invariant-loop-key
invariant-loop-key g l = record {
  shown : MarksShown (g.S.Store.contents l.store) (take l.key-index l.keys) l.initial.marks l.marks;
  all : Searched (g.S.Store.contents l.store) (take l.key-index l.keys) l.initial.marks l.marks;
  not_found : slice_index_or l.marks l.sought false ≡ slice_index_or l.initial.marks l.sought false;
}
