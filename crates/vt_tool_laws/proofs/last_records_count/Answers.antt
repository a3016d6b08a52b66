use Rattle.vt_tool_laws.proofs.LastRecords.{last_records}
use Rattle.vt_tool_laws.proofs.last_records_count.Goals as goal

pub returns : goal.returns
returns c = last_records
