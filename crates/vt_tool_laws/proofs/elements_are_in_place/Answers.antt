use Rattle.vt_tool_laws.proofs.PlacedMarks.{elements_in_place}
use Rattle.vt_tool_laws.proofs.elements_are_in_place.Goals as goal

pub returns : goal.returns
returns c = elements_in_place
