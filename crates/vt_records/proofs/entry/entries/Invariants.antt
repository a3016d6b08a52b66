use Rattle.std.proofs.Common.{◌≡◌, ◌-◌, map, vec_len}
use Rattle.vt_records.specs.TableReads.{rows_at}
use Rattle.vt_records.proofs.Rows.{with_front}
use Rattle.vt_records.proofs.entry.entries.Given as goal

abbrev pub invariant-loop : goal.invariant-loop
invariant-loop g l = record {
  read : with_front (map g.T.Entry.numbers l.items.items) (rows_at g.T.Entry.sizes (l.count - l.counter) l.reader) ≡ rows_at g.T.Entry.sizes l.count l.fn.reader;
  len : vec_len l.items ≡ l.counter;
}
