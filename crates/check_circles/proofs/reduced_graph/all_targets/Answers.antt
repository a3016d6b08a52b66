use Rattle.std.proofs.Common.{◌<◌, sym, subst, arith}
use Rattle.vt_rank.specs.Graphs.{nodes_of, triggered}
use Rattle.vt_rank.specs.declared.graph.Item.TheVariants.{Most}
use Rattle.check_circles.specs.ReducedGraphs.{HaveSameMembers}
use Rattle.check_circles.proofs.lemmas.ReducedGraphs.{rows_more}
use Rattle.check_circles.proofs.reduced_graph.all_targets.Goals as goal

pub targets-requires : goal.targets-requires
targets-requires c = subst (HaveSameMembers (nodes_of c.args.graph.now Most)) (sym c.as_slice.ensures.value) c.in_ok-most.ensures.same

pub loop-node-preserved : goal.loop-node-preserved
loop-node-preserved c =
    rows_more (triggered c.args.graph.now) c.loop-node.rows c.push.new.self c.in_ok-targets.field-0 c.loop-node.node c.in_ok-push.ensures.items c.in_ok-targets.ensures c.loop-node.invariant

pub returns : goal.returns
returns c = λ n small. c.loop-node.invariant.1 n (let inside : n < c.loop-node.node = omega arith in inside)
