use Rattle.check_circles.proofs.lemmas.ReducedGraphs.{reduced_by_groups}
use Rattle.check_circles.proofs.reduced_graph.reduced.Goals as goal

pub returns : goal.returns
returns c = reduced_by_groups c.args.graph.now _ c.in_ok-nodes.ensures c.in_ok-groups.ensures
