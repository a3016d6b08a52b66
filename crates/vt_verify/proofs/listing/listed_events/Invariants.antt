use Rattle.std.proofs.Common.{◌≡◌, take, map}
use Rattle.std.specs.List.{flat_map}
use Rattle.vt_stores.specs.Stores.{seen_entry}
use Rattle.vt_rank.specs.Graphs.{lists}
use Rattle.vt_stores.specs.Shapes.{shape_of}
use Rattle.vt_verify.proofs.lemmas.graphs.EventGroups.{events_of, groups_of_events}
use Rattle.vt_verify.proofs.listing.listed_events.Given as goal

abbrev pub invariant-loop-id : goal.invariant-loop-id
invariant-loop-id l =
    (map seen_entry l.id-items ≡ l.objects)
    × (l.events.keys ≡ flat_map events_of (shape_of (map seen_entry (take l.id-index l.id-items))))
    × (lists l.groups ≡ flat_map groups_of_events (shape_of (map seen_entry (take l.id-index l.id-items))))
