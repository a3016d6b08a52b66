use Rattle.std.proofs.Common.{arith}
use Rattle.std.proofs.lemmas.Grind.{common_steps}
use Rattle.vt_recorded.proofs.FrameForms.{remote_form, bytes_form, other_form}
use Rattle.vt_recorded.proofs.plain.put_data.Goals as goal

pub returns-in_ok-push : goal.returns-in_ok-push
returns-in_ok-push c = grind (arith, common_steps, remote_form c.args.text.now)

pub returns-in_ok-put_pairs : goal.returns-in_ok-put_pairs
returns-in_ok-put_pairs c = grind (arith, common_steps, bytes_form c.args.text.now)

pub returns-in_ok-push-2 : goal.returns-in_ok-push-2
returns-in_ok-push-2 c = grind (arith, common_steps, other_form c.args.text.now)
