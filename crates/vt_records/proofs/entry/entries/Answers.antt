use Rattle.std.proofs.Common.{◌≡◌, ◌++◌, ◌∷◌, [], map, refl, ap, ◌∙◌, arith}
use Rattle.std.proofs.lemmas.Result.{err_from_is_err_and}
use Rattle.std.proofs.lemmas.List.{map_push}
use Rattle.vt_records.specs.TableReads.{rows_at}
use Rattle.vt_records.proofs.Rows.{goes_on, ends, is_done}
use Rattle.vt_records.proofs.entry.entries.Goals as goal

pub returns-in_err-read-clause-read : goal.returns-in_err-read-clause-read
returns-in_err-read-clause-read g c =
    let p = err_from_is_err_and c.from_residual.result c.from_residual.ensures.1 in
    rw (p.1, p.2) (ends g.T.Entry.sizes c.in_err-read.field-0.0 (map g.T.Entry.numbers c.loop.items.items) c.args.count c.loop.counter c.loop.reader (rows_at g.T.Entry.sizes c.args.count c.args.reader.now) c.loop-test.true c.in_err-read.ensures c.loop.invariant.read)

pub loop-preserved : goal.loop-preserved
loop-preserved g c =
    let x = c.in_ok-read.field-0 in
    let numbers = g.T.Entry.numbers in
    let items = c.loop.items.items in
    let pushed : c.push.new.self.items ≡ items ++ x ∷ [] = c.in_ok-push.ensures.items in
    let rows = ap (map numbers) pushed ∙ map_push numbers items x in
    record {
      read = rw rows (goes_on g.T.Entry.sizes (map numbers items) c.args.count c.loop.counter c.loop.reader (numbers x) c.read.new.reader (rows_at g.T.Entry.sizes c.args.count c.args.reader.now) c.loop-test.true c.in_ok-read.ensures c.loop.invariant.read);
      len = omega (arith, c.in_ok-push.ensures.len, c.loop.invariant.len);
    }

pub returns-clause-read : goal.returns-clause-read
returns-clause-read g c =
    is_done g.T.Entry.sizes (map g.T.Entry.numbers c.loop.items.items) c.args.count c.loop.counter c.loop.reader (rows_at g.T.Entry.sizes c.args.count c.args.reader.now) c.loop-test.false c.loop.invariant.read ∙ rw c.from_vec.ensures refl
