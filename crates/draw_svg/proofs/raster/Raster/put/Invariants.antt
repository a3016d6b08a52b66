use Rattle.std.proofs.Common.{◌≡◌, ◌≤◌, ◌-◌, ◌⊎◌, replicate}
use Rattle.draw_svg.specs.FilledRows.{Fills, AreFew}
use Rattle.draw_svg.proofs.raster.Raster.put.Given as goal

abbrev pub invariant-loop-left : goal.invariant-loop-left
invariant-loop-left l = record {
  most : l.left ≤ l.count;
  filled : Fills l.fn.self l.self (replicate (l.count - l.left) l.byte);
  few : ((l.left ≡ 0) × AreFew l.fn.self l.self 1) ⊎ AreFew l.fn.self l.self 0;
}

abbrev pub decreases-loop-left : goal.decreases-loop-left
decreases-loop-left l = l.left
