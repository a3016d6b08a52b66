-- The clauses of `read_record` follow from the result of `record_at`.
use Rattle.std.proofs.Common.{◌≡◌, ℕ, ◌<◌, List, ◌++◌, length, Result, Ok, Err}
use Rattle.std.specs.Prelude.{IfOk, IfErr}
use Rattle.vt_kinds.specs.declared.object.Object.{Object}
use Rattle.vt_kinds.specs.Records.{seen, kind_of, values_of, record_of, HasRecord}
use Rattle.vt_records.specs.declared.record_fault.RecordFault.{RecordFault}
use Rattle.vt_records.specs.declared.record_fault.RecordFault.TheVariants as stops
use Rattle.vt_records.specs.Heads.{ReadRecord, Reads, record_at}
use Rattle.vt_records.specs.RecordFaults.{IsStop}
use Rattle.vt_records.proofs.Numbers.{IsBytes}
use Rattle.vt_records.proofs.ReadInvertsWrite.{IsTaken, is_taken}
use Rattle.vt_records.proofs.Causes.{record_stops}

module _ {X B : Type 0} (id : X → ℕ) (object : X → Object B) (rest : X → List ℕ) where
  -- the returned record as a `ReadRecord`
  abbrev pub view : X → ReadRecord
  view x = record { id = id x; kind = kind_of (object x); values = values_of (object x); rest = rest x }

  taken : (all : List ℕ) (x : X) → IsBytes all → record_at all ≡ Ok (view x)
      → IsTaken all (id x) (seen (object x)) (rest x)
  taken all x fits e = is_taken all (id x) (object x) (rest x) fits e

  module _ (all : List ℕ) (fits : IsBytes all) where
    pub has_record : (r : Result X RecordFault) → Reads view r (record_at all)
        → IfOk r (λ x. HasRecord (id x) (seen (object x)))
    has_record (Ok x) e = (taken all x fits e).has
    has_record (Err s) e = tt

    pub has_parts : (r : Result X RecordFault) → Reads view r (record_at all)
        → IfOk r (λ x. all ≡ record_of (id x) (seen (object x)) ++ rest x)
    has_parts (Ok x) e = (taken all x fits e).parts
    has_parts (Err s) e = tt

    pub is_shorter : (r : Result X RecordFault) → Reads view r (record_at all)
        → IfOk r (λ x. length (rest x) < length all)
    is_shorter (Ok x) e = (taken all x fits e).shorter
    is_shorter (Err s) e = tt

  pub is_stop : (all : List ℕ) (r : Result X RecordFault) → IsBytes all → Reads view r (record_at all) → IfErr r (IsStop all)
  is_stop all (Ok x) fits e = tt
  is_stop all (Err stops.OutOfMemory) fits e = tt
  is_stop all (Err stops.Truncated) fits e = record_stops all stops.Truncated fits e
  is_stop all (Err stops.UnknownType) fits e = record_stops all stops.UnknownType fits e
  is_stop all (Err stops.LeftOutType) fits e = record_stops all stops.LeftOutType fits e
  is_stop all (Err (stops.Scale at)) fits e = record_stops all (stops.Scale at) fits e
  is_stop all (Err (stops.Decimals at)) fits e = record_stops all (stops.Decimals at) fits e
  is_stop all (Err stops.NullId) fits e = record_stops all stops.NullId fits e
