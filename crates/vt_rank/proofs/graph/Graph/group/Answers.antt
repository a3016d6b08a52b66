use Rattle.std.proofs.Common.{◌<◌, ◌≤◌, ◌≡◌, length, get_or, sym, ◌∙◌, rules}
use Rattle.vt_rank.specs.Graphs.{group_of}
use Rattle.vt_rank.proofs.Entries.{get_or-lists, get_or-lists_past}
use Rattle.vt_rank.proofs.graph.Graph.group.Goals as goal

pub returns-in-Some : goal.returns-in-Some
unfolding group_of
returns-in-Some c =
    let groups = c.args.self.now.groups in
    let v = c.in-Some.nodes.now in
    let is : v ≡ get_or groups.items c.args.group v = search rules in
    let inside : c.args.group < length groups.items = search rules in
    c.as_slice.ensures.value ∙ get_or-lists groups c.args.group v inside is

pub returns-in-None : goal.returns-in-None
unfolding group_of
returns-in-None c =
    let groups = c.args.self.now.groups in
    let past : length groups.items ≤ c.args.group = search rules in
    sym (get_or-lists_past groups c.args.group past)
