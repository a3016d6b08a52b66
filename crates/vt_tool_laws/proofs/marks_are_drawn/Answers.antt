use Rattle.vt_tool_laws.proofs.PlacedMarks.{marks_placed}
use Rattle.vt_tool_laws.proofs.marks_are_drawn.Goals as goal

pub returns : goal.returns
returns c = marks_placed
