use Rattle.std.proofs.Common.{ℕ, List, [], ◌∷◌, ◌++◌, ap₂, ◌∙◌}
use Rattle.std.proofs.lemmas.List.Concat.{flat_map_single}
use Rattle.std.specs.Prelude.{nat_eq}
use Rattle.indexmap.specs.IndexMap.{get}
use Rattle.vt_kinds.specs.Records.{Seen}
use Rattle.check_reading.specs.declared.pool_reading.ObjectRecord.{ObjectRecord}
use Rattle.check_reading.specs.Readings.{record_by}
use Rattle.check_reading.proofs.lemmas.Entries.{over_entries}
use Rattle.check_reading.proofs.in_force.records_of.Goals as goal

pub loop-id-init : goal.loop-id-init
loop-id-init c =
    let is = c.entries-id-items.ensures.all in
    let made : ℕ × Seen → ObjectRecord = record_by (λ id. get nat_eq c.args.places.now id) in (
      is,
      ap₂ (λ (a b : List ObjectRecord). a ++ b) c.in_ok-records.ensures.items
          (over_entries c.entries-id-items.result.now c.args.objects.now is (λ (o : ℕ × Seen). made o ∷ []) ∙ flat_map_single made c.args.objects.now),
    )
