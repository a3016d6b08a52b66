use Rattle.std.proofs.Common.{false, replicate, List, subst}
use Rattle.std.specs.List.{flat_map}
use Rattle.vt_rank.specs.declared.graph.Item.{Item}
use Rattle.vt_rank.specs.declared.graph.Item.TheVariants.{Step}
use Rattle.vt_rank.specs.Graphs.{nodes_of}
use Rattle.check_circles.specs.ReducedGraphs.{Marks}
use Rattle.check_circles.proofs.lemmas.Marks.{marking_more, marking_done, marked_ok}
use Rattle.check_circles.proofs.reduced_graph.targets.Goals as goal

pub loop-item-preserved : goal.loop-item-preserved
loop-item-preserved c = marking_more _ _ _ Step _ _ _ c.loop-item-test.true c.mark_item.array_long c.loop-item.invariant c.mark_item.ensures

pub returns : goal.returns
returns c =
    let all = marking_done _ _ _ _ _ c.loop-item-test.false c.loop-item.invariant in
    marked_ok c.loop-item.marks _ c.marked.result
    (subst (λ (items : List Item). Marks (replicate 256 false) c.loop-item.marks (flat_map (nodes_of c.args.graph.now) items)) c.items-item-items.ensures all)
    c.marked.ensures
