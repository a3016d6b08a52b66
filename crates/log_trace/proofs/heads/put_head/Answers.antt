use Rattle.std.proofs.Common.{rules}
use Rattle.std.proofs.lemmas.Result.{on_ok_weaker}
use Rattle.log_trace.proofs.NumberedLines.{gains_head}
use Rattle.log_trace.proofs.heads.put_head.Goals as goal

pub returns : goal.returns
returns g c =
    on_ok_weaker c.put_line.result
    (gains_head c.args.number c.as_bytes.result.now c.args.text.now.items c.push_number.new.out.items c.put_line.new.text.items (search rules)
    c.in_ok-push_number.ensures)
    c.put_line.ensures
