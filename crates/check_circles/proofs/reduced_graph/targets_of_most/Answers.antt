use Rattle.std.proofs.Common.{false, replicate, ℕ, List, subst}
use Rattle.std.specs.List.{flat_map}
use Rattle.vt_rank.specs.Graphs.{group_of}
use Rattle.check_circles.specs.ReducedGraphs.{Marks}
use Rattle.check_circles.proofs.lemmas.Marks.{marking_more, marking_done, marked_ok}
use Rattle.check_circles.proofs.reduced_graph.targets_of_most.Goals as goal

pub loop-group-preserved : goal.loop-group-preserved
loop-group-preserved c =
    marking_more _ _ _ 0 _ _ _ c.loop-group-test.true c.mark.array_long c.loop-group.invariant
    (subst (Marks c.loop-group.marks c.mark.new.marks) c.group.ensures c.mark.ensures)

pub returns : goal.returns
returns c =
    let all = marking_done _ _ _ _ _ c.loop-group-test.false c.loop-group.invariant in
    marked_ok c.loop-group.marks _ c.marked.result
    (subst (λ (groups : List ℕ). Marks (replicate 256 false) c.loop-group.marks (flat_map (group_of c.args.graph.now) groups)) c.deref-group-items.ensures.value all)
    c.marked.ensures
