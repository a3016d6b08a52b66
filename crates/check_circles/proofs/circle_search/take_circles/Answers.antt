use Rattle.std.proofs.Common.{◌≡◌, ℕ, ◌<◌, List, ap, subst, sym, ◌∙◌, rules}
use Rattle.vt_rank.specs.declared.graph.Item.{Item}
use Rattle.vt_rank.specs.Graphs.{triggered, lists}
use Rattle.check_circles.specs.Circles.{cleared}
use Rattle.check_circles.proofs.lemmas.Circles.{busy, triggered_left, circle_less, circling_more, circling_ends}
use Rattle.check_circles.proofs.circle_search.take_circles.Goals as goal

pub loop-circle-smaller : goal.loop-circle-smaller
loop-circle-smaller c =
    let path : c.as_slice.result.now ≡ c.in-Err.circle.path.items = search rules in
    subst (λ (ls : List (List Item)). busy ls < busy (lists c.loop-circle.graph.nodes))
    (sym (c.clear.ensures.nodes ∙ ap (λ (ms : List ℕ). cleared ms (lists c.loop-circle.graph.nodes)) path))
    (circle_less c.loop-circle.graph c.in-Err.circle.path.items c.in-Err.ensures.circle)

pub loop-circle-preserved : goal.loop-circle-preserved
loop-circle-preserved c =
    let g = c.loop-circle.graph in
    let path : c.as_slice.result.now ≡ c.in-Err.circle.path.items = search rules in
    circling_more (triggered c.args.graph.now) (triggered g) (triggered c.clear.new.graph) c.loop-circle.found.items c.push.new.self.items
    c.in-Err.circle c.loop-circle.invariant c.in-Err.ensures.circle c.in-Err.ensures.once c.in-Err.ensures.least
    (triggered_left g c.clear.new.graph c.in-Err.circle.path.items (c.clear.ensures.nodes ∙ ap (λ (ms : List ℕ). cleared ms (lists g.nodes)) path) c.clear.ensures.groups c.clear.ensures.most)
    c.in_ok-push.ensures.items

pub returns : goal.returns
returns c = circling_ends (triggered c.args.graph.now) (triggered c.loop-circle.graph) c.loop-circle.found.items c.loop-circle.invariant c.in_default.ensures.none
