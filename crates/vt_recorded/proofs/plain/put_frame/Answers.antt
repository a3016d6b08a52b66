use Rattle.std.proofs.Common.{arith}
use Rattle.std.proofs.lemmas.Grind.{common_steps}
use Rattle.vt_recorded.proofs.FrameForms.{fd_form, bracket_form, bare_form}
use Rattle.vt_recorded.proofs.plain.put_frame.Goals as goal

pub returns-then-not-starts_with : goal.returns-then-not-starts_with
returns-then-not-starts_with c = grind (arith, common_steps, bare_form c.args.text.now)

pub returns-then-is_of_fd : goal.returns-then-is_of_fd
returns-then-is_of_fd c = grind (arith, common_steps, fd_form c.args.text.now)

pub returns : goal.returns
returns c = grind (arith, common_steps, bracket_form c.args.text.now)
