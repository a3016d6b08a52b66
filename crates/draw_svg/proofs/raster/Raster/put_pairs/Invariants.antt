use Rattle.std.proofs.Common.{◌≡◌, ◌≤◌, ◌-◌, ◌++◌, List, ℕ, length}
use Rattle.draw_svg.specs.FilledRows.{Fills, AreFew}
use Rattle.draw_svg.specs.Rasters.{unpacked}
use Rattle.draw_svg.proofs.raster.Raster.put_pairs.Given as goal

abbrev pub invariant-loop-rest : goal.invariant-loop-rest
invariant-loop-rest l = record {
  done : List ℕ;
  parts : unpacked l.pairs ≡ done ++ unpacked l.rest;
  filled : Fills l.fn.self l.self done;
  most : length l.rest ≤ length l.pairs;
  few : AreFew l.fn.self l.self (length l.pairs - length l.rest);
}

abbrev pub decreases-loop-rest : goal.decreases-loop-rest
decreases-loop-rest l = length l.rest
