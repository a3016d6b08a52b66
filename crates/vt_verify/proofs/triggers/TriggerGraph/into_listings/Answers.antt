use Rattle.std.proofs.Common.{List, map, ap, ◌∙◌}
use Rattle.vt_rank.specs.Graphs.{lists}
use Rattle.vt_verify.specs.declared.listing.Listing.{Listing}
use Rattle.vt_verify.specs.Triggers.{listed}
use Rattle.vt_verify.proofs.lemmas.graphs.SameTriggers.{listings_are}
use Rattle.vt_verify.proofs.triggers.TriggerGraph.into_listings.Goals as goal

pub returns : goal.returns
returns c = λ shape are.
    listings_are shape c.args.self.events.keys (lists c.args.self.graph.groups) are.events_are
    (are.groups ∙ ap (λ (es : List Listing). map (listed shape) es) are.events_are)
