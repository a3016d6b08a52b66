use Rattle.vt_commands.proofs.EachRow.{each_command_has_its_row}
use Rattle.vt_commands.proofs.laws.each_command_has_its_row.Goals as goal

pub returns : goal.returns
returns c = each_command_has_its_row
