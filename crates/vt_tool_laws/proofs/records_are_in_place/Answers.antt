use Rattle.vt_tool_laws.proofs.Offsets.{in_bytes}
use Rattle.vt_tool_laws.proofs.records_are_in_place.Goals as goal

pub returns : goal.returns
returns c = in_bytes
