use Rattle.check_circles.proofs.lemmas.ReducedGraphs.{same_circles_back}
use Rattle.check_circles.proofs.lemmas.Results.{if_ok}
use Rattle.check_circles.proofs.circle_search.circles.Goals as goal

pub returns : goal.returns
returns c = if_ok c.take_circles.result c.take_circles.ensures (λ found are. same_circles_back _ _ _ c.in_ok-small.ensures.same are)
