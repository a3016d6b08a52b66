-- A reading of a pool's bytes has a fault that `read_pool` may return, or whole records.
use Rattle.std.proofs.Common.{◌≡◌, ℕ, ◌+◌, ◌-◌, ◌<◌, Bool, true, false, cond, List, [], ◌∷◌, ◌++◌, length, map, None, Some, refl, sym, ap, subst, ◌∙◌, arith}
use Rattle.std.proofs.lemmas.List.{append_assoc, append-nil, length-append}
use Rattle.std.specs.Prelude.{IsTrue, filter}
use Rattle.check_reading.specs.declared.passed.PassedRecord.{PassedRecord}
use Rattle.vt_kinds.specs.Records.{record_of}
use Rattle.vt_records.specs.declared.fault.PoolFault.{PoolFault}
use Rattle.vt_records.specs.declared.record_fault.RecordFault.{RecordFault}
use Rattle.vt_records.specs.declared.record_fault.RecordFault.TheVariants as stops
use Rattle.vt_records.specs.RecordFaults.{IsStop, fault_at}
use Rattle.vt_pool.specs.Pools.{PoolEntry, AreRecords, joined, IsFault, IsWantOfMemory}
use Rattle.vt_pool.proofs.JoinedRecords.{joined_push, records_push, is_fault}
use Rattle.check_reading.specs.Passed.{passed_size}
use Rattle.check_reading.specs.Readings.{wants_memory, is_mendable, most_mended, Step, IsReading, found_from, faults_from, passed_from, unread_from, entry_of}
use Rattle.check_reading.specs.Readings.Step.{Found, Mended, Passed, Ended}
use Rattle.check_inspect.specs.declared.finding.Finding.{Finding}
use Rattle.check_inspect.specs.declared.finding.Finding.TheVariants as findings
use Rattle.check_inspect.specs.Inspections.{is_judged}

pub data Outcome (all : List ℕ) (front : List PoolEntry) (at : ℕ) (steps : List Step) : Type 0 where
  Whole : faults_from at steps ≡ [] → passed_from at steps ≡ [] → unread_from at steps ≡ None → AreRecords (front ++ map entry_of (found_from at steps))
      → all ≡ joined (front ++ map entry_of (found_from at steps)) → Outcome all front at steps
  Faulty : (fault : PoolFault) (others : List PoolFault) → faults_from at steps ≡ fault ∷ others → IsFault all fault → (IsWantOfMemory fault → ⊥)
      → Outcome all front at steps

no_memory : (fault : RecordFault) (at : ℕ) → wants_memory fault ≡ false → IsWantOfMemory (fault_at fault at) → ⊥
no_memory stops.Truncated at is want = want
no_memory stops.UnknownType at is want = want
no_memory stops.LeftOutType at is want = want
no_memory (stops.Scale field) at is want = want
no_memory (stops.Decimals field) at is want = want
no_memory stops.OutOfMemory at is want = absurd cc
no_memory stops.NullId at is want = want

mendable_known : (fault : RecordFault) → IsTrue (is_mendable fault) → wants_memory fault ≡ false
mendable_known stops.Truncated is = refl
mendable_known stops.UnknownType is = refl
mendable_known stops.LeftOutType is = refl
mendable_known (stops.Scale field) is = refl
mendable_known (stops.Decimals field) is = refl
mendable_known stops.OutOfMemory is = absurd cc
mendable_known stops.NullId is = refl

mendable_some : (fault : RecordFault) (rest : List ℕ) → IsTrue (is_mendable fault) → IsStop rest fault → 0 < length rest
mendable_some stops.Truncated rest is stop = absurd cc
mendable_some stops.UnknownType rest is stop = absurd cc
mendable_some stops.LeftOutType rest is stop = absurd cc
mendable_some (stops.Scale field) rest is stop = let head = stop.head in omega arith
mendable_some (stops.Decimals field) rest is stop = let head = stop.head in omega arith
mendable_some stops.OutOfMemory rest is stop = absurd cc
mendable_some stops.NullId rest is stop = absurd cc

passed_known : (fault : RecordFault) (rest : List ℕ) (size : ℕ) → passed_size fault rest ≡ Some size → wants_memory fault ≡ false
passed_known stops.Truncated rest size is = refl
passed_known stops.UnknownType rest size is = refl
passed_known stops.LeftOutType rest size is = refl
passed_known (stops.Scale field) rest size is = refl
passed_known (stops.Decimals field) rest size is = refl
passed_known stops.OutOfMemory rest size is = absurd cc
passed_known stops.NullId rest size is = refl

passed_some : (fault : RecordFault) (rest : List ℕ) (size : ℕ) → passed_size fault rest ≡ Some size → IsStop rest fault → 0 < length rest
passed_some stops.Truncated rest size is stop = absurd cc
passed_some stops.UnknownType rest size is stop = let head = stop.0.head in omega arith
passed_some stops.LeftOutType rest size is stop = let head = stop.0.head in omega arith
passed_some (stops.Scale field) rest size is stop = absurd cc
passed_some (stops.Decimals field) rest size is stop = absurd cc
passed_some stops.OutOfMemory rest size is stop = absurd cc
passed_some stops.NullId rest size is stop = absurd cc

-- ---- no finding is left out, if no record is passed over

judged_none : (g : Finding) → is_judged [] g ≡ true
judged_none (findings.Record fault) = refl
judged_none findings.NoWorkingSet = refl
judged_none (findings.TwoWorkingSets id) = refl
judged_none (findings.Missing r) = refl
judged_none (findings.WrongKind r) = refl
judged_none (findings.TooDeep chain) = refl
judged_none (findings.MacroBytes id) = refl
judged_none (findings.MacroCommand id at function) = refl
judged_none (findings.MacroMissing r) = refl
judged_none (findings.MacroKind r) = refl
judged_none (findings.MacroValue id at object attribute) = refl
judged_none (findings.MacroCircle path) = refl
judged_none (findings.OverBudget id event) = refl

judged_all : (found : List Finding) → filter (is_judged []) found ≡ found
judged_all [] = refl
judged_all (g ∷ found) =
    ap (λ (b : Bool). cond b (g ∷ filter (is_judged []) found) (filter (is_judged []) found)) (judged_none g)
    ∙ ap (λ (l : List Finding). g ∷ l) (judged_all found)

pub judged_if_none : (passed : List PassedRecord) (found : List Finding) → passed ≡ [] → filter (is_judged passed) found ≡ found
judged_if_none passed found none = ap (λ (l : List PassedRecord). filter (is_judged l) found) none ∙ judged_all found

pub outcome : (steps : List Step) (all : List ℕ) (front : List PoolEntry) (rest : List ℕ) (at left : ℕ) → AreRecords front → all ≡ joined front ++ rest
    → at ≡ length all - length rest → IsReading left rest steps → Outcome all front at steps
outcome [] all front rest at left whole parts place is =
    Whole refl refl refl (subst AreRecords (sym (append-nil front)) whole)
    (parts ∙ ap (λ l. joined front ++ l) is ∙ append-nil (joined front) ∙ ap joined (sym (append-nil front)))
outcome (Found id o ∷ steps) all front rest at left whole parts place is =
    let next = is.1.0 in
    let more = joined_push front id o all rest next parts is.1.1 in
    let sum = ap length is.1.1 ∙ length-append (record_of id o) next in
    let long = ap length parts ∙ length-append (joined front) rest in
    let assoc = append_assoc front ((id, o) ∷ []) (map entry_of (found_from (at + length (record_of id o)) steps)) in
    elim (outcome steps all (front ++ (id, o) ∷ []) next (at + length (record_of id o)) most_mended (records_push front id o whole is.0) more (omega arith) is.1.2)
    as (λ _. Outcome all front at (Found id o ∷ steps)) [
      | Whole faults passed unread records joins ↦ Whole faults passed unread (subst AreRecords assoc records) (joins ∙ ap joined assoc)
      | Faulty fault others faults is_one known ↦ Faulty fault others faults is_one known
    ]
outcome (Mended fault ∷ steps) all front rest at left whole parts place is =
    Faulty (fault_at fault at) (faults_from at steps) refl
    (is_fault all front rest at fault whole parts place (mendable_some fault rest is.1 is.2) is.2)
    (no_memory fault at (mendable_known fault is.1))
outcome (Passed fault id number size ∷ steps) all front rest at left whole parts place is =
    Faulty (fault_at fault at) (faults_from (at + size) steps) refl
    (is_fault all front rest at fault whole parts place (passed_some fault rest size is.1 is.0) is.0)
    (no_memory fault at (passed_known fault rest size is.1))
outcome (Ended fault ∷ steps) all front rest at left whole parts place is =
    Faulty (fault_at fault at) [] refl (is_fault all front rest at fault whole parts place is.0 is.1) (no_memory fault at is.2.no_memory)

pub whole_outcome : (steps : List Step) (bytes : List ℕ) → IsReading most_mended bytes steps → Outcome bytes [] 0 steps
whole_outcome steps bytes is = outcome steps bytes [] bytes 0 most_mended tt refl (omega arith) is
