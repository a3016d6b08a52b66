-- The objects of the last records.
use Rattle.std.proofs.Common.{ap}
use Rattle.std.specs.FinMap as finite
use Rattle.vt_stores.specs.Stores.{by_rising_id}
use Rattle.vt_tool_laws.specs.InspectLaws.{LastRecordsCount}

pub last_records : LastRecordsCount
unfolding by_rising_id
last_records records pool is = ap finite.entries is.last
