use Rattle.std.proofs.Common.{◌≡◌, ℕ, sym, subst, slice_index}
use Rattle.vt_rank.specs.Paths.{IsLeastOnCircles}
use Rattle.vt_rank.proofs.PathsAndCircles.{least_on_circles}
use Rattle.vt_rank.proofs.circle.least_circle.Goals as goal
use Rattle.vt_rank.specs.Graphs.{triggered}

pub returns-clause-least : goal.returns-clause-least
returns-clause-least c =
    let first : slice_index c.unwrap.result.items 0 ≡ c.least_on_circles-least.result = rw c.unwrap.ensures at c.circle_through.ensures.first in
    subst (λ (k : ℕ). IsLeastOnCircles (triggered c.args.graph.now) k) (sym first) (least_on_circles c.args.graph.now c.least_on_circles-least.result (λ n less rest circle. c.least_on_circles-least.ensures.least n less (rest, circle)))
