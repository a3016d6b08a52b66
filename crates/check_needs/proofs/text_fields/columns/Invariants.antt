use Rattle.std.proofs.Common.{◌≡◌, ◌≤◌, take, length}
use Rattle.check_needs.specs.TextFields.{columns}
use Rattle.check_needs.proofs.text_fields.columns.Given as goal

abbrev pub invariant-loop-end : goal.invariant-loop-end
invariant-loop-end l = (l.end ≤ length l.text) × (columns l.text ≡ columns (take l.end l.text))

abbrev pub decreases-loop-end : goal.decreases-loop-end
decreases-loop-end l = l.end
