-- Joined records, and the fault of the bytes after them.
use Rattle.std.proofs.Common.{◌≡◌, ℕ, ◌+◌, ◌-◌, ◌<◌, List, [], ◌∷◌, ◌++◌, length, Result, Ok, Err, refl, sym, ap, subst, ◌∙◌, append_assoc, arith}
use Rattle.std.specs.Prelude.{IfErr}
use Rattle.std.proofs.lemmas.List.{length-append, flat_map_more}
use Rattle.vt_kinds.specs.Layout.{ScaleBytes, DecimalPlaces}
use Rattle.vt_kinds.specs.Records.{Seen, record_of, HasRecord}
use Rattle.vt_records.specs.declared.record_fault.RecordFault.{RecordFault}
use Rattle.vt_records.specs.declared.record_fault.RecordFault.TheVariants as stops
use Rattle.vt_records.specs.declared.fault.PoolFault.{PoolFault}
use Rattle.vt_records.specs.declared.fault.PoolFault.TheVariants as faults
use Rattle.vt_pool.specs.Pools.{PoolEntry, joined, AreRecords, IsFaultAt, AtFirst, IsFault, IsWantOfMemory}
use Rattle.vt_records.specs.Faults.{NoRecordBegins, IsImproper}
use Rattle.vt_records.specs.RecordFaults.{IsStop, fault_at}
use Rattle.vt_records.proofs.ReadInvertsWrite.{same_record}
use Rattle.vt_records.proofs.Causes.{truncated_none, null_none, other_none}

-- ---- one more record

pub joined_push : (records : List PoolEntry) (id : ℕ) (o : Seen) (bytes rest after : List ℕ) → bytes ≡ joined records ++ rest → rest ≡ record_of id o ++ after
    → bytes ≡ joined (records ++ (id, o) ∷ []) ++ after
joined_push records id o bytes rest after parts front =
    parts ∙ ap (λ (r : List ℕ). joined records ++ r) front ∙ sym (append_assoc (joined records) (record_of id o) after)
    ∙ ap (λ (j : List ℕ). j ++ after) (flat_map_more (λ r. record_of r.0 r.1) [] records (id, o))

pub records_push : (records : List PoolEntry) (id : ℕ) (o : Seen) → AreRecords records → HasRecord id o → AreRecords (records ++ (id, o) ∷ [])
records_push [] id o are has = (has, tt)
records_push (r ∷ records) id o are has = (are.0, records_push records id o are.1 has)

-- ---- the fault of the bytes after whole records

fault_there : (bytes : List ℕ) (records : List PoolEntry) (rest : List ℕ) (at offset : ℕ) (Faulty : List ℕ → ℕ → Type 0) → AreRecords records → bytes ≡ joined records ++ rest → at ≡ length bytes - length rest
    → 0 < length rest → Faulty rest offset → IsFaultAt bytes (at + offset) Faulty
fault_there bytes records rest at offset Faulty are parts place some is =
    let len = ap length parts ∙ length-append (joined records) rest in
    record { records = records; whole = are; rest = rest; parts = parts; offset = offset; place = omega (arith, len); some = some; faulty = is }

fault_first : (bytes : List ℕ) (records : List PoolEntry) (rest : List ℕ) (at : ℕ) (Faulty : List ℕ → Type 0) → AreRecords records → bytes ≡ joined records ++ rest → at ≡ length bytes - length rest
    → 0 < length rest → Faulty rest → IsFaultAt bytes at (AtFirst Faulty)
fault_first bytes records rest at Faulty are parts place some is =
    let same : at + 0 ≡ at = omega arith in
    subst (λ (n : ℕ). IsFaultAt bytes n (AtFirst Faulty)) same (fault_there bytes records rest at 0 (AtFirst Faulty) are parts place some (refl, is))

pub is_fault : (bytes : List ℕ) (records : List PoolEntry) (rest : List ℕ) (at : ℕ) (stop : RecordFault) → AreRecords records → bytes ≡ joined records ++ rest → at ≡ length bytes - length rest → 0 < length rest
    → IsStop rest stop → IsFault bytes (fault_at stop at)
is_fault bytes records rest at stops.Truncated are parts place some is = fault_first bytes records rest at _ are parts place some is
is_fault bytes records rest at stops.NullId are parts place some is = fault_first bytes records rest at _ are parts place some is
is_fault bytes records rest at stops.LeftOutType are parts place some is = fault_first bytes records rest at _ are parts place some is
is_fault bytes records rest at stops.UnknownType are parts place some is = fault_first bytes records rest at _ are parts place some is
is_fault bytes records rest at (stops.Scale offset) are parts place some is = fault_there bytes records rest at offset (IsImproper ScaleBytes) are parts place some is
is_fault bytes records rest at (stops.Decimals offset) are parts place some is = fault_there bytes records rest at offset (IsImproper DecimalPlaces) are parts place some is
is_fault bytes records rest at stops.OutOfMemory are parts place some is = fault_first bytes records rest at _ are parts place some tt

-- ---- no bytes remain after whole records

pub joined_whole : (front records : List PoolEntry) (rest : List ℕ) → AreRecords front → AreRecords records → NoRecordBegins rest → joined front ++ rest ≡ joined records → rest ≡ []
joined_whole [] [] rest are whole none parts = parts
joined_whole [] (r ∷ records) rest are whole none parts = absurd (none r.0 r.1 (joined records) whole.0 parts)
joined_whole (f ∷ front) [] rest are whole none parts =
    let len = ap length parts in absurd (omega arith)
joined_whole (f ∷ front) (r ∷ records) rest are whole none parts =
    let same = same_record f.0 r.0 f.1 r.1 (joined front ++ rest) (joined records) are.0 whole.0 (sym (append_assoc (record_of f.0 f.1) (joined front) rest) ∙ parts) in
    joined_whole front records rest are.1 whole.1 none same.same_rest

not_whole : (bytes : List ℕ) (at : ℕ) (Faulty : List ℕ → ℕ → Type 0) (records : List PoolEntry) → ((rest : List ℕ) (offset : ℕ) → Faulty rest offset → NoRecordBegins rest) → AreRecords records → bytes ≡ joined records
    → IsFaultAt bytes at Faulty → ⊥
not_whole bytes at Faulty records none are parts fault =
    let nothing : fault.rest ≡ [] = joined_whole fault.records records fault.rest fault.whole are (none fault.rest fault.offset fault.faulty) (sym fault.parts ∙ parts) in
    let len = ap length nothing in
    let some = fault.some in
    absurd (omega arith)

pub want_of_memory : (bytes : List ℕ) (fault : PoolFault) (records : List PoolEntry) → AreRecords records → bytes ≡ joined records → IsFault bytes fault → IsWantOfMemory fault
want_of_memory bytes (faults.Truncated at) records are parts is = not_whole bytes at _ records (λ rest _ h. truncated_none rest h.1) are parts is
want_of_memory bytes (faults.NullId at) records are parts is = not_whole bytes at _ records (λ rest _ h. null_none rest h.1) are parts is
want_of_memory bytes (faults.LeftOutType at) records are parts is = not_whole bytes at _ records (λ rest _ h. other_none rest h.1.0) are parts is
want_of_memory bytes (faults.UnknownType at) records are parts is = not_whole bytes at _ records (λ rest _ h. other_none rest h.1.0) are parts is
want_of_memory bytes (faults.Scale at) records are parts is = not_whole bytes at _ records (λ rest _ h. h.no_record) are parts is
want_of_memory bytes (faults.Decimals at) records are parts is = not_whole bytes at _ records (λ rest _ h. h.no_record) are parts is
want_of_memory bytes (faults.OutOfMemory at) records are parts is = tt

pub only_want : {X : Type 0} (bytes : List ℕ) (r : Result X PoolFault) (records : List PoolEntry) → AreRecords records → bytes ≡ joined records → IfErr r (IsFault bytes) → IfErr r IsWantOfMemory
only_want bytes (Ok x) records are parts is = tt
only_want bytes (Err fault) records are parts is = want_of_memory bytes fault records are parts is
