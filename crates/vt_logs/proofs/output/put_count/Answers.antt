use Rattle.std.specs.Fmt.{decimal}
use Rattle.std.proofs.lemmas.Result.{on_err_weaker}
use Rattle.vt_logs.proofs.EarlyEndInLines.{begins_later, begins_more, on_any_err}
use Rattle.vt_logs.proofs.output.put_count.Goals as goal

pub returns-in_err-put-clause-front : goal.returns-in_err-put-clause-front
returns-in_err-put-clause-front g c =
    let held = g.W.Write.contents in
    on_any_err c.from_residual.result
    (begins_more (held c.args.writer.now) (held c.put.new.writer) c.args.label.now (decimal c.args.count) (rw c.as_bytes.ensures.value at c.in_err-put.ensures.front))

pub returns-clause-front : goal.returns-clause-front
returns-clause-front g c =
    let held = g.W.Write.contents in
    on_err_weaker c.put_number.result
    (begins_later (held c.args.writer.now) (held c.put.new.writer) (held c.put_number.new.writer) c.args.label.now (decimal c.args.count)
    (rw c.as_bytes.ensures.value at c.in_ok-put.ensures.text))
    c.put_number.ensures.front
