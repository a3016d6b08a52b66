use Rattle.std.proofs.Common.{sym, subst}
use Rattle.vt_rank.specs.declared.graph.Item.{Item}
use Rattle.vt_rank.specs.Graphs.{nodes_of}
use Rattle.check_circles.specs.ReducedGraphs.{Marks}
use Rattle.check_circles.proofs.lemmas.Marks.{marked_too}
use Rattle.check_circles.proofs.reduced_graph.mark_item.Goals as goal

pub returns-in-Most : goal.returns-in-Most
returns-in-Most c =
    let after = c.mark-in-Most.new.marks in
    subst (λ (item : Item). Marks c.args.marks.now after (nodes_of c.args.graph.now item)) (sym c.in-Most.is)
    (marked_too _ _ _ _ c.requires c.mark-in-Most.ensures)
