use Rattle.std.proofs.Common.{subst, sym}
use Rattle.check_reading.specs.Readings.{NamesObjects, most_mended}
use Rattle.check_reading.proofs.lemmas.Readings.{names_read}
use Rattle.check_reading.proofs.pool_reading.read_past_faults.Goals as goal

pub in_force-requires : goal.in_force-requires
in_force-requires c =
    let read = c.in_ok-found.ensures in
    subst NamesObjects (sym read.found) (names_read read.steps 0 most_mended c.args.bytes.now read.reading)
