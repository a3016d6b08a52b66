use Rattle.vt_rank.specs.Graphs.{lists}
use Rattle.vt_stores.specs.Shapes.{shape_of}
use Rattle.vt_verify.proofs.lemmas.graphs.SameTriggers.{listings_are}
use Rattle.vt_verify.proofs.listing.Listings.of_objects.Goals as goal

pub returns : goal.returns
returns c =
    listings_are (shape_of c.args.objects.now) c.in_ok-events.events.keys (lists c.in_ok-events.groups) c.in_ok-events.ensures.events c.in_ok-events.ensures.groups
