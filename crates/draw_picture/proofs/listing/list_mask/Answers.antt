use Rattle.std.proofs.Common.{rules, ◌≡◌, Option, None, ap}
use Rattle.std.specs.FinMap as finite
use Rattle.vt_kinds.specs.Records.{Seen}
use Rattle.vt_layout.specs.Drawings.{entries_in}
use Rattle.draw_picture.proofs.Listed.{nothing_listed}
use Rattle.draw_picture.proofs.listing.list_mask.Goals as goal

pub returns-in-None-clause-listed : goal.returns-in-None-clause-listed
returns-in-None-clause-listed g c =
    let store = g.S.Store.contents c.args.store.now in
    let none : finite.get store c.args.mask ≡ None = search rules in
    nothing_listed 32 c.args.sizes store _ _ c.args.list.now.items (ap (λ (o : Option Seen). entries_in store o) none) c.requires
