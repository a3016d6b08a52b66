use Rattle.std.proofs.Common.{◌<◌, ◌≤◌, ◌≡◌, length, get_or, []}
use Rattle.std.proofs.Common.{sym, ◌∙◌, arith, rules}
use Rattle.std.proofs.lemmas.List.{get_or-take}
use Rattle.vt_rank.specs.Graphs.{items_of, lists}
use Rattle.vt_rank.proofs.Entries.{get_or-lists, get_or-lists_past}
use Rattle.check_circles.proofs.reduced_graph.items.Goals as goal

pub returns-in-Some : goal.returns-in-Some
unfolding items_of
returns-in-Some c =
    let nodes = c.args.graph.now.nodes in
    let v = c.in-Some.items.now in
    let is : v ≡ get_or nodes.items c.args.node v = search rules in
    let inside : c.args.node < length nodes.items = search rules in
    let small : c.args.node < 256 = omega arith in
    c.as_slice.ensures.value ∙ get_or-lists nodes c.args.node v inside is ∙ sym (get_or-take 256 (lists nodes) c.args.node [] small)

pub returns-in-None : goal.returns-in-None
unfolding items_of
returns-in-None c =
    let nodes = c.args.graph.now.nodes in
    let past : length nodes.items ≤ c.args.node = search rules in
    let small : c.args.node < 256 = omega arith in
    sym (get_or-take 256 (lists nodes) c.args.node [] small ∙ get_or-lists_past nodes c.args.node past)
