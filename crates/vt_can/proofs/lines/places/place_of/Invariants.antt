use Rattle.std.proofs.Common.{◌-◌, take}
use Rattle.vt_can.specs.lines.Fields.{Lacks}
use Rattle.vt_can.proofs.lines.places.place_of.Given as goal

abbrev pub invariant-loop-from : goal.invariant-loop-from
invariant-loop-from l = Lacks l.byte (take l.from l.text)

abbrev pub decreases-loop-from : goal.decreases-loop-from
decreases-loop-from l = l.last - l.from
