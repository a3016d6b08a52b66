use Rattle.std.proofs.Common.{◌≡◌, map, drop, None}
use Rattle.vt_stores.specs.Stores.{seen_entry}
use Rattle.draw_gallery.specs.Masks.{last_set}
use Rattle.draw_gallery.proofs.masks.last_set.Given as goal

abbrev pub invariant-loop-id : goal.invariant-loop-id
invariant-loop-id l =
    (map seen_entry l.id-items ≡ l.objects)
    × (last_set None l.objects ≡ last_set l.last (map seen_entry (drop l.id-index l.id-items)))
