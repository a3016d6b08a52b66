use Rattle.vt_can.proofs.lemmas.lines.Actions.{id_and-cut_missing, id_and-none}
use Rattle.vt_can.proofs.lines.action.id_and_more.Goals as goal

pub returns-in_err-id : goal.returns-in_err-id
returns-in_err-id c = rw c.from_residual.ensures (id_and-cut_missing c.args.text.now c.in_err-id.ensures)

pub returns-in_err-object_id : goal.returns-in_err-object_id
returns-in_err-object_id c =
    rw c.from_residual-in_err-object_id.ensures (id_and-none c.args.text.now c.in_ok-id.id.now c.in_ok-id.more.now c.in_ok-id.ensures c.in_err-object_id.ensures)
