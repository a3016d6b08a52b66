-- The first finding, where the bytes have a fault.
use Rattle.std.proofs.Common.{◌≡◌, List, ◌∷◌, ◌++◌, map, ap, ◌∙◌}
use Rattle.vt_records.specs.declared.fault.PoolFault.{PoolFault}
use Rattle.vt_pool.specs.Pools.{IsFault}
use Rattle.vt_pool.proofs.JoinedRecords.{want_of_memory}
use Rattle.check_inspect.specs.declared.finding.Finding.{Finding}
use Rattle.check_inspect.specs.declared.finding.Finding.TheVariants as findings
use Rattle.std.specs.Prelude.{filter}
use Rattle.check_inspect.specs.Inspections.{is_judged}
use Rattle.check_reading.specs.Readings.{found_from, passed_from, entry_of}
use Rattle.vt_tool_laws.specs.InspectLaws.{FirstIsTheFault}
use Rattle.vt_tool_laws.proofs.WholeReadings.{whole_outcome}
use Rattle.vt_tool_laws.proofs.WholeReadings.Outcome.{Whole, Faulty}

pub first_fault : FirstIsTheFault
first_fault bytes i fault is faulty known =
    elim (whole_outcome is.steps bytes is.reading) as (λ _. (first : PoolFault) × (others : List Finding) × (i.findings.items ≡ findings.Record first ∷ others) × IsFault bytes first) [
      | Whole faults passed unread records joins ↦ absurd (known (want_of_memory bytes fault (map entry_of (found_from 0 is.steps)) records joins faulty))
      | Faulty first others faults is_one no_memory ↦
          let judged = filter (is_judged (passed_from 0 is.steps)) is.of_rules in
          (first, map findings.Record others ++ judged, is.found ∙ ap (λ (l : List PoolFault). map findings.Record l ++ judged) faults, is_one)
    ]
