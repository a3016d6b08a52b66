use Rattle.std.proofs.Common.{◌≡◌, ◌≤◌, length, take}
use Rattle.draw_shapes.specs.Fields.{trimmed}
use Rattle.draw_shapes.proofs.shapes.fields.trimmed.Given as goal

abbrev pub invariant-loop-end : goal.invariant-loop-end
invariant-loop-end l = (l.end ≤ length l.text) × (trimmed (take l.end l.text) ≡ trimmed l.text)

abbrev pub decreases-loop-end : goal.decreases-loop-end
decreases-loop-end l = l.end
