use Rattle.std.proofs.Common.{◌≡◌, ◌≤◌, ◌-◌, ◌++◌, List, ℕ, length}
use Rattle.draw_svg.specs.FilledRows.{Fills, AreFew}
use Rattle.draw_svg.proofs.raster.Raster.put_bytes.Given as goal

abbrev pub invariant-loop-rest : goal.invariant-loop-rest
invariant-loop-rest l = record {
  done : List ℕ;
  parts : l.bytes ≡ done ++ l.rest;
  filled : Fills l.fn.self l.self done;
  most : length l.rest ≤ length l.bytes;
  few : AreFew l.fn.self l.self (length l.bytes - length l.rest);
}

abbrev pub decreases-loop-rest : goal.decreases-loop-rest
decreases-loop-rest l = length l.rest
