use Rattle.std.proofs.Common.{List, ap, ◌∙◌}
use Rattle.std.proofs.lemmas.List.{map-set}
use Rattle.std.specs.Prelude.{slice_set}
use Rattle.vt_rank.specs.declared.graph.Item.{Item}
use Rattle.vt_rank.specs.Graphs.{lists}
use Rattle.check_circles.proofs.circle_search.clear_items.Goals as goal

pub returns-in-Some : goal.returns-in-Some
returns-in-Some c =
    map-set (λ v. v.items) c.args.nodes.now.items c.args.index c.clear.new.self
    ∙ ap (λ (l : List Item). slice_set (lists c.args.nodes.now) c.args.index l) c.clear.ensures.items
