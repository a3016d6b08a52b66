use Rattle.std.proofs.Common.{◌≡◌, Option, None, ap, ◌∙◌, rules}
use Rattle.std.specs.FinMap as finite
use Rattle.vt_kinds.specs.Records.{Seen}
use Rattle.vt_layout.specs.Drawings.{entries_in}
use Rattle.draw_picture.specs.Marks.{marks}
use Rattle.draw_picture.proofs.Walked.{walked_nothing, no_entries}
use Rattle.draw_picture.proofs.document.walk_inside.Goals as goal

pub returns-in-None : goal.returns-in-None
returns-in-None g c =
    let store = g.S.Store.contents c.args.store.now in
    let none : finite.get store c.args.mask ≡ None = search rules in
    walked_nothing store _ c.args.walk.now (ap (λ (o : Option Seen). marks 32 store (entries_in store o)) none ∙ no_entries 32 store)
