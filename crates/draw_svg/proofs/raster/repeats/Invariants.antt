use Rattle.std.proofs.Common.{◌≡◌, ◌≤◌, ◌<◌, ◌-◌, ◌++◌, length, replicate, drop}
use Rattle.std.specs.Prelude.{slice_index_or}
use Rattle.draw_svg.proofs.raster.repeats.Given as goal

abbrev pub invariant-loop-count : goal.invariant-loop-count
invariant-loop-count l = record {
  some : 0 < l.count;
  most : l.count ≤ length l.bytes;
  same : l.bytes ≡ replicate l.count (slice_index_or l.bytes 0 0) ++ drop l.count l.bytes;
}

abbrev pub decreases-loop-count : goal.decreases-loop-count
decreases-loop-count l = length l.bytes - l.count
