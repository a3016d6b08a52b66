-- Bytes that end inside a record have no lasting fault.
use Rattle.std.proofs.Common.{◌≡◌, ℕ, List, [], ◌∷◌, ◌++◌, length, drop, Option, Some, None, sym, ap, subst, ◌∙◌, append_assoc, arith, inl, inr}
use Rattle.std.specs.Prelude.{IfNone}
use Rattle.vt_kinds.specs.Layout.{RecordField, ScaleBytes, DecimalPlaces}
use Rattle.vt_kinds.specs.Records.{record_of}
use Rattle.vt_records.specs.declared.fault.PoolFault.{PoolFault}
use Rattle.vt_records.specs.declared.fault.PoolFault.TheVariants as faults
use Rattle.vt_pool.specs.Pools.{PoolEntry, joined, AreRecords, IsFaultAt}
use Rattle.vt_records.specs.Faults.{NoRecordBegins, HasNullId, HasOtherType, IsTruncated, IsImproper}
use Rattle.vt_pool.specs.PoolUploads.{AreWholeTo, IsUnfinished, IsReadTo, HasNoFaultYet}
use Rattle.vt_records.proofs.ReadInvertsWrite.{same_record}
use Rattle.vt_records.proofs.Causes.{truncated_none, null_none, other_none}

-- ---- the bytes after the same whole records

same_rest : (front records : List PoolEntry) (rest other : List ℕ) → AreRecords front → AreRecords records → NoRecordBegins rest → NoRecordBegins other → joined front ++ rest ≡ joined records ++ other → rest ≡ other
same_rest [] [] rest other are whole none apart parts = parts
same_rest [] (r ∷ records) rest other are whole none apart parts =
    absurd (none r.0 r.1 (joined records ++ other) whole.0 (parts ∙ append_assoc (record_of r.0 r.1) (joined records) other))
same_rest (f ∷ front) [] rest other are whole none apart parts =
    absurd (apart f.0 f.1 (joined front ++ rest) are.0 (sym parts ∙ append_assoc (record_of f.0 f.1) (joined front) rest))
same_rest (f ∷ front) (r ∷ records) rest other are whole none apart parts =
    let same = same_record f.0 r.0 f.1 r.1 (joined front ++ rest) (joined records ++ other) are.0 whole.0
    (sym (append_assoc (record_of f.0 f.1) (joined front) rest) ∙ parts ∙ append_assoc (record_of r.0 r.1) (joined records) other) in
    same_rest front records rest other are.1 whole.1 none apart same.same_rest

nothing_begins : (rest : List ℕ) → IsUnfinished rest → NoRecordBegins rest
nothing_begins rest (inl nil) id o tail has parts = let len = ap length (sym nil ∙ parts) in absurd (omega arith)
nothing_begins rest (inr cut) id o tail has parts = truncated_none rest cut id o tail has parts

-- ---- truncated bytes have no other fault

null_apart : (rest : List ℕ) → IsTruncated rest → HasNullId rest → ⊥
null_apart rest (inl lt) null = let head = null.head in absurd (omega arith)
null_apart rest (inr cut) null = cut.named null.null

other_apart : (rest : List ℕ) → IsTruncated rest → HasOtherType rest → ⊥
other_apart rest (inl lt) other = let head = other.head in absurd (omega arith)
other_apart rest (inr cut) other = cut.known other.no_kind

improper_apart : (sort : RecordField) (rest : List ℕ) (at : ℕ) → IsTruncated rest → IsImproper sort rest at → ⊥
improper_apart sort rest at (inl lt) is = let head = is.head in absurd (omega arith)
improper_apart sort rest at (inr cut) is = cut.cut is.kind is.values is.read

unfinished_cases : (bytes rest : List ℕ) (at : ℕ) (Faulty : List ℕ → ℕ → Type 0) → ((rest : List ℕ) (offset : ℕ) → IsTruncated rest → Faulty rest offset → ⊥) → IsUnfinished rest → (fault : IsFaultAt bytes at Faulty) → rest ≡ fault.rest → ⊥
unfinished_cases bytes rest at Faulty apart (inl nil) fault same =
    let len = ap length (sym nil ∙ same) in
    let some = fault.some in
    absurd (omega arith)
unfinished_cases bytes rest at Faulty apart (inr cut) fault same = apart fault.rest fault.offset (subst IsTruncated same cut) fault.faulty

not_faulty : (bytes : List ℕ) (place at : ℕ) (Faulty : List ℕ → ℕ → Type 0) → ((rest : List ℕ) (offset : ℕ) → Faulty rest offset → NoRecordBegins rest) → ((rest : List ℕ) (offset : ℕ) → IsTruncated rest → Faulty rest offset → ⊥)
    → AreWholeTo bytes place → IsUnfinished (drop place bytes) → IsFaultAt bytes at Faulty → ⊥
not_faulty bytes place at Faulty none apart to unfinished fault =
    let rest = drop place bytes in
    let same : rest ≡ fault.rest =
    same_rest to.records fault.records rest fault.rest to.whole fault.whole (nothing_begins rest unfinished) (none fault.rest fault.offset fault.faulty) (sym to.parts ∙ fault.parts) in
    unfinished_cases bytes rest at Faulty apart unfinished fault same

pub no_fault_yet : (bytes : List ℕ) (place : ℕ) → IsReadTo bytes place None → HasNoFaultYet bytes
no_fault_yet bytes place read (faults.NullId at) is lasts =
    not_faulty bytes place at _ (λ rest _ h. null_none rest h.1) (λ rest _ cut h. null_apart rest cut h.1) read.0 read.1 is
no_fault_yet bytes place read (faults.LeftOutType at) is lasts =
    not_faulty bytes place at _ (λ rest _ h. other_none rest h.1.0) (λ rest _ cut h. other_apart rest cut h.1.0) read.0 read.1 is
no_fault_yet bytes place read (faults.UnknownType at) is lasts =
    not_faulty bytes place at _ (λ rest _ h. other_none rest h.1.0) (λ rest _ cut h. other_apart rest cut h.1.0) read.0 read.1 is
no_fault_yet bytes place read (faults.Scale at) is lasts =
    not_faulty bytes place at (IsImproper ScaleBytes) (λ rest _ h. h.no_record) (λ rest offset cut h. improper_apart ScaleBytes rest offset cut h) read.0 read.1 is
no_fault_yet bytes place read (faults.Decimals at) is lasts =
    not_faulty bytes place at (IsImproper DecimalPlaces) (λ rest _ h. h.no_record) (λ rest offset cut h. improper_apart DecimalPlaces rest offset cut h) read.0 read.1 is
no_fault_yet bytes place read (faults.Truncated at) is lasts = absurd lasts
no_fault_yet bytes place read (faults.OutOfMemory at) is lasts = absurd lasts

pub none_lasts : (bytes : List ℕ) (place : ℕ) (fault : Option PoolFault) → IsReadTo bytes place fault → IfNone fault (HasNoFaultYet bytes)
none_lasts bytes place None read = no_fault_yet bytes place read
none_lasts bytes place (Some fault) read = tt
