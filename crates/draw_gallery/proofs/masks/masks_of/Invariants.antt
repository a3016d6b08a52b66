use Rattle.std.proofs.Common.{◌≡◌, ◌++◌, map, drop}
use Rattle.vt_stores.specs.Stores.{seen_entry}
use Rattle.draw_gallery.specs.Masks.{masks_of}
use Rattle.draw_gallery.proofs.masks.masks_of.Given as goal

abbrev pub invariant-loop-id : goal.invariant-loop-id
invariant-loop-id l =
    (map seen_entry l.id-items ≡ l.objects)
    × (masks_of l.objects ≡ l.masks.items ++ masks_of (map seen_entry (drop l.id-index l.id-items)))
