use Rattle.vt_tool_laws.proofs.ListedMarks.{lists_shown}
use Rattle.vt_tool_laws.proofs.lists_show_the_picture.Goals as goal

pub returns : goal.returns
returns c = lists_shown
