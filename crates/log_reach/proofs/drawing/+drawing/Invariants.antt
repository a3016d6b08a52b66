use Rattle.std.proofs.Common.{◌+◌, ◌*◌}
use Rattle.log_reach.proofs.drawing.+drawing.Given as goal

abbrev pub decreases-put_element : goal.decreases-put_element
decreases-put_element l = 2 * l.depth

abbrev pub decreases-put_within : goal.decreases-put_within
decreases-put_within l = 2 * l.depth + 1
