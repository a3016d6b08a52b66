use Rattle.std.proofs.Common.{List, ℕ, subst}
use Rattle.std.specs.List.{flat_map}
use Rattle.vt_rank.specs.NodeSets.{Adds, IsSetOf}
use Rattle.vt_rank.specs.Graphs.{group_of}
use Rattle.vt_rank.proofs.SetsAfterInsertions.{adding_more, adding_done, set_of}
use Rattle.vt_rank.proofs.reach.targets_of_most.Goals as goal

pub loop-group-preserved : goal.loop-group-preserved
loop-group-preserved c =
    adding_more _ _ _ 0 _ _ _ c.loop-group-test.true c.loop-group.invariant (subst (Adds c.loop-group.targets c.insert_nodes.new.self) c.group.ensures c.insert_nodes.ensures)

pub returns : goal.returns
returns c =
    let all = set_of c.new-targets.result c.loop-group.targets _ c.new-targets.ensures (adding_done _ _ _ _ _ c.loop-group-test.false c.loop-group.invariant) in
    subst (λ (groups : List ℕ). IsSetOf c.loop-group.targets (flat_map (group_of c.args.graph.now) groups)) c.deref-group-items.ensures.value all
