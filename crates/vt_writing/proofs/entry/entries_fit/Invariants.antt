use Rattle.std.proofs.Common.{take, map}
use Rattle.std.specs.List.{AllByRecursion}
use Rattle.vt_kinds.specs.Layout.{RowFits}
use Rattle.vt_writing.proofs.entry.entries_fit.Given as goal

abbrev pub invariant-loop-entry : goal.invariant-loop-entry
invariant-loop-entry g l = AllByRecursion (RowFits g.T.Entry.sizes) (map g.T.Entry.numbers (take l.entry-index l.entries))
