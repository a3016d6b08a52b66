use Rattle.std.proofs.Common.{◌≤◌, ◌+◌, ◌*◌, ◌-◌, drop, length, map}
use Rattle.check_reading.specs.Readings.{found_at}
use Rattle.check_reading.proofs.lemmas.Readings.{IsReadingOn}
use Rattle.check_reading.proofs.records.read_records.Given as goal

abbrev pub invariant-loop-at : goal.invariant-loop-at
invariant-loop-at l = record {
  inside : l.at ≤ length l.mended.items;
  reading : IsReadingOn l.bytes (drop l.at l.mended.items) l.at l.left (map found_at l.found.items) l.faults.items l.passed.items;
}

abbrev pub decreases-loop-at : goal.decreases-loop-at
decreases-loop-at l = 3 * (length l.mended.items - l.at) + l.left
