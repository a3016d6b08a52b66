use Rattle.vt_tool_laws.proofs.Positions.{in_place}
use Rattle.vt_tool_laws.proofs.findings_are_in_place.Goals as goal

pub returns : goal.returns
returns c = in_place
