use Rattle.std.proofs.Common.{List, map, [], sym, ap, ◌∙◌}
use Rattle.std.proofs.lemmas.List.{get_or-take}
use Rattle.vt_rank.specs.Graphs.{lists, items_of}
use Rattle.vt_verify.specs.declared.listing.Listing.{Listing}
use Rattle.vt_stores.specs.Shapes.{shape_of}
use Rattle.vt_verify.specs.Triggers.{listed}
use Rattle.vt_verify.proofs.triggers.TriggerGraph.of_objects.Goals as goal

pub returns : goal.returns
unfolding items_of
returns c = record {
  events_are = c.in_ok-events.ensures.events;
  groups = c.in_ok-events.ensures.groups ∙ ap (λ (events : List Listing). map (listed (shape_of c.args.objects.now)) events) (sym c.in_ok-events.ensures.events);
  nodes = λ id lt. get_or-take 256 (lists c.in_ok-nodes.nodes) id [] lt ∙ c.in_ok-nodes.ensures id lt;
  most = c.in_ok-most.ensures;
}
