use Rattle.std.proofs.Common.{◌≡◌, ℕ, ◌++◌, map, drop}
use Rattle.std.specs.List.{flat_map}
use Rattle.vt_kinds.specs.Records.{Seen}
use Rattle.vt_stores.specs.Stores.{seen_entry}
use Rattle.std.specs.Prelude.{[], ◌∷◌, nat_eq}
use Rattle.indexmap.specs.IndexMap.{get}
use Rattle.check_reading.specs.Readings.{record_by}
use Rattle.check_reading.proofs.in_force.records_of.Given as goal

abbrev pub invariant-loop-id : goal.invariant-loop-id
invariant-loop-id l =
    (map seen_entry l.id-items ≡ l.objects)
    × (l.records.items ++ flat_map (λ e. (λ (o : ℕ × Seen). record_by (λ id. get nat_eq l.places id) o ∷ []) (seen_entry e)) (drop l.id-index l.id-items) ≡ map (record_by (λ id. get nat_eq l.places id)) l.objects)
