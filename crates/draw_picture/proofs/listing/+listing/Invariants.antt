use Rattle.std.proofs.Common.{◌+◌, ◌*◌, ◌-◌, ◌≤◌, drop, length}
use Rattle.draw_picture.specs.Listings.{listed}
use Rattle.draw_picture.proofs.Listed.{IsListing}
use Rattle.draw_picture.proofs.listing.+listing.Given as goal

abbrev pub decreases-list_entries : goal.decreases-list_entries
decreases-list_entries g l = 5 * l.levels

abbrev pub decreases-list_entry : goal.decreases-list_entry
decreases-list_entry g l = 5 * l.levels + 4

abbrev pub decreases-list_item : goal.decreases-list_item
decreases-list_item g l = 5 * l.levels + 1

abbrev pub decreases-list_within : goal.decreases-list_within
decreases-list_within g l = 5 * l.levels + 2

abbrev pub invariant-list_entries-loop-entry : goal.invariant-list_entries-loop-entry
invariant-list_entries-loop-entry g l =
    let store = g.S.Store.contents l.store in
    IsListing (listed (l.levels - 1) l.sizes store) l.sizes store l.entries l.around (drop l.entry-index l.entries) l.fn.list.items l.list.items × (length l.list.items ≤ 2000)
