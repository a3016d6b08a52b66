use Rattle.std.proofs.Common.{◌≡◌, ◌++◌, take, map}
use Rattle.vt_kinds.specs.Layout.{rows_spelling}
use Rattle.vt_writing.proofs.entry.put_entries.Given as goal

abbrev pub invariant-loop-entry : goal.invariant-loop-entry
invariant-loop-entry g l = l.out.items ≡ l.initial.out.items ++ rows_spelling g.T.Entry.sizes (map g.T.Entry.numbers (take l.entry-index l.entries))
