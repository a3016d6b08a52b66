use Rattle.vt_stores.specs.Shapes.{shape_of}
use Rattle.vt_macros.proofs.QuietRuns.{with_listings_is}
use Rattle.vt_macros.proofs.index.Index.new.Goals as goal

pub returns : goal.returns
returns c =
    with_listings_is (shape_of c.args.accepted.now) c.in_ok-index.index c.with_listings.result c.in_ok-listings.listings
    c.with_listings.ensures.rest c.with_listings.ensures.quiet c.in_ok-listings.ensures c.in_ok-index.ensures
