use Rattle.std.proofs.Common.{sym, ap, subst}
use Rattle.vt_stores.specs.Stores.{Objects, map_of}
use Rattle.vt_chains.specs.Depths.{HasDepths}
use Rattle.vt_chains.specs.Limits.{terminal}
use Rattle.vt_stores.specs.Shapes.{shape_of}
use Rattle.vt_macros.proofs.QuietRuns.{with_listings_is}
use Rattle.vt_machine.proofs.StateBeforeAndAfter.{stored_indexed, stored_runs}
use Rattle.vt_machine.proofs.live.Live+SortedStore.from_accepted.Goals as goal

pub find_quiet-requires : goal.find_quiet-requires
find_quiet-requires c =
    let pool = c.args.accepted in
    let found = c.into_parts-objects.ensures in
    let parts = c.into_parts-objects.result in
    stored_indexed (map_of parts.objects) pool c.with_listings-index.result (ap map_of found.objects) found.stored found.acceptable
    (with_listings_is (shape_of pool) c.in_ok-commands.commands c.with_listings-index.result parts.listings
    c.with_listings-index.ensures.rest c.with_listings-index.ensures.quiet found.listings c.in_ok-commands.ensures)

pub of_parts-requires-clause-runs : goal.of_parts-requires-clause-runs
of_parts-requires-clause-runs c =
    let pool = c.args.accepted in
    let found = c.into_parts-objects.ensures in
    let parts = c.into_parts-objects.result in
    stored_runs (map_of parts.objects) pool c.find_quiet.new.self c.in_ok-levels.levels (ap map_of found.objects) found.stored found.acceptable found.totals
    c.find_quiet.ensures
    (c.in_ok-levels.ensures (map_of parts.objects) (subst (λ (objects : Objects). HasDepths terminal objects parts.depths.items) (sym found.objects) found.depths))
