-- The position up to which a pool's bytes are read, and their lasting fault.
use Rattle.std.proofs.Common.{◌≡◌, ℕ, ◌<◌, ◌≤◌, Bool, true, false, cond, eqb, leb, ◌&&◌, List, [], ◌∷◌, ◌++◌, length, drop, Option, Some, None, Result, Ok, Err, refl, sym, ap, subst, ◌∙◌, append_assoc, arith, inl, inr}
use Rattle.std.proofs.lemmas.List.{length-append, length-drop, drop_at, drop_all, drop-append-le}
use Rattle.byteorder.specs.Endian.{little_number}
use Rattle.vt_kinds.specs.declared.kind.Kind.{Kind}
use Rattle.vt_kinds.specs.Ids.{null_id}
use Rattle.vt_kinds.specs.Layout.{Value, no_counts}
use Rattle.vt_kinds.specs.Kinds.{kind_of_type}
use Rattle.vt_kinds.specs.Records.{Seen, fields_of, kind_of, values_of, record_of, HasRecord}
use Rattle.vt_records.specs.declared.record_fault.RecordFault.{RecordFault}
use Rattle.vt_records.specs.declared.record_fault.RecordFault.TheVariants as stops
use Rattle.vt_records.specs.declared.fault.PoolFault.{PoolFault}
use Rattle.vt_records.specs.Heads.{ReadRecord, fitting, fields_at, record_at}
use Rattle.vt_records.specs.TableReads.{values_at}
use Rattle.vt_pool.specs.Pools.{joined, IsFault}
use Rattle.vt_records.specs.RecordFaults.{fault_at}
use Rattle.vt_pool.specs.PoolUploads.{lasting_of, AreWholeTo, IsReadTo, WereReadTo}
use Rattle.vt_pool.specs.FieldLayouts.{PassesRecord}
use Rattle.vt_records.proofs.Numbers.{IsBytes, IsBytes-drop, IsBytes-rest}
use Rattle.vt_records.proofs.Tables.{values_take}
use Rattle.vt_records.proofs.Misfits.{misfit_is, fitting_err}
use Rattle.vt_records.proofs.RecordHeads.{held, of_values, of_kind, record_at-short, record_at-long}
use Rattle.vt_records.proofs.ReadInvertsWrite.{IsRead, is_read}
use Rattle.vt_records.proofs.Causes.{record_stops}
use Rattle.vt_pool.proofs.JoinedRecords.{joined_push, records_push, is_fault}
use Rattle.vt_records.proofs.FromValues.{object_there}
use Rattle.vt_pool.proofs.LastingFaults.{faults_last}

-- ---- a record at the front

-- the bytes begin with the record of some object
pub record BeginsRecord (all rest : List ℕ) : Type 0 where
  pub id : ℕ
  pub object : Seen
  pub has : HasRecord id object
  pub parts : all ≡ record_of id object ++ rest

pub begins_record : (all : List ℕ) (h : ReadRecord) → IsBytes all → record_at all ≡ Ok h → BeginsRecord all h.rest
begins_record all h fits e =
    let read = is_read all h fits e in
    let there = object_there h.kind h.values read.fields_fit read.proper in
    let o = there.object in
    let of_kind : IsRead all (held h.id (kind_of o) (h.values, h.rest)) = subst (λ (k : Kind). IsRead all (held h.id k (h.values, h.rest))) (sym there.its_kind) read in
    let of_object : IsRead all (held h.id (kind_of o) (values_of o, h.rest)) = subst (λ (vs : List Value). IsRead all (held h.id (kind_of o) (vs, h.rest))) (sym there.its_values) of_kind in
    record { id = h.id; object = o; has = record { named = of_object.named; fields_fit = of_object.fields_fit; proper = of_object.proper }; parts = of_object.parts }

-- ---- reading a record never runs out of memory

values_memory : (kind : Kind) (rest : List ℕ) (vs : Option (List Value × List ℕ)) → IsBytes rest → values_at (fields_of kind) no_counts rest ≡ vs → fitting (fields_of kind) vs ≡ Err stops.OutOfMemory → ⊥
values_memory kind rest None fits is e = absurd cc
values_memory kind rest (Some x) fits is e =
    misfit_is 3 (fields_of kind) no_counts x.0 stops.OutOfMemory (values_take (fields_of kind) no_counts rest x fits is).1 (fitting_err (fields_of kind) x stops.OutOfMemory e)

of_values_err : (id : ℕ) (kind : Kind) (vs : Result (List Value × List ℕ) RecordFault) (stop : RecordFault) → of_values id kind vs ≡ Err stop → vs ≡ Err stop
of_values_err id kind (Ok x) stop e = absurd cc
of_values_err id kind (Err s) stop e = let same : s ≡ stop = cc in ap (λ (t : RecordFault). Err t) same

other_memory : (low high : Bool) → ◌≡◌ {A = Result ReadRecord RecordFault} (Err (cond (low && high) stops.LeftOutType stops.UnknownType)) (Err stops.OutOfMemory) → ⊥
other_memory true true e = absurd cc
other_memory true false e = absurd cc
other_memory false high e = absurd cc

kind_memory : (id type : ℕ) (rest : List ℕ) (kind : Option Kind) → IsBytes rest → of_kind id type rest kind ≡ Err stops.OutOfMemory → ⊥
kind_memory id type rest None fits e = other_memory (leb 29 type) (leb type 33) e
kind_memory id type rest (Some kind) fits e =
    values_memory kind rest (values_at (fields_of kind) no_counts rest) fits refl (of_values_err id kind (fields_at (fields_of kind) rest) stops.OutOfMemory e)

id_memory : (null : Bool) (id type : ℕ) (rest : List ℕ) → IsBytes rest → cond null (Err stops.NullId) (of_kind id type rest (kind_of_type type)) ≡ Err stops.OutOfMemory → ⊥
id_memory true id type rest fits e = absurd cc
id_memory false id type rest fits e = kind_memory id type rest (kind_of_type type) fits e

no_memory : (all : List ℕ) → IsBytes all → record_at all ≡ Err stops.OutOfMemory → ⊥
no_memory [] fits e = let no = sym (record_at-short [] (omega arith)) ∙ e in absurd cc
no_memory (a ∷ []) fits e = let no = sym (record_at-short (a ∷ []) (omega arith)) ∙ e in absurd cc
no_memory (a ∷ b ∷ []) fits e = let no = sym (record_at-short (a ∷ b ∷ []) (omega arith)) ∙ e in absurd cc
no_memory (a ∷ b ∷ c ∷ rest) fits e =
    let rest_fits : IsBytes rest = IsBytes-rest c rest (IsBytes-rest b (c ∷ rest) (IsBytes-rest a (b ∷ c ∷ rest) fits)) in
    let id = little_number 2 (a ∷ b ∷ []) in
    id_memory (eqb id null_id) id c rest rest_fits (sym (record_at-long a b c rest) ∙ e)

-- ---- whole records up to a position

pub none_whole : (bytes : List ℕ) → AreWholeTo bytes 0
none_whole bytes = record { records = []; whole = tt; parts = refl; place_is = refl }

place_within : (bytes : List ℕ) (place : ℕ) → AreWholeTo bytes place → place ≤ length bytes
place_within bytes place to =
    let len = ap length to.parts ∙ length-append (joined to.records) (drop place bytes) in
    omega (arith, len, to.place_is)

whole_more : (before more : List ℕ) (place : ℕ) → AreWholeTo before place → AreWholeTo (before ++ more) place
whole_more before more place to =
    record {
      records = to.records;
      whole = to.whole;
      parts =
          ap (λ (l : List ℕ). l ++ more) to.parts ∙ append_assoc (joined to.records) (drop place before) more
          ∙ ap (λ (l : List ℕ). joined to.records ++ l) (sym (drop-append-le place before more (place_within before place to)));
      place_is = to.place_is;
    }

next_cases : (pool : List ℕ) (at place : ℕ) (r : Result ReadRecord RecordFault) → IsBytes pool → AreWholeTo pool at → record_at (drop at pool) ≡ r → PassesRecord (length pool) at (Ok place) r → AreWholeTo pool place
next_cases pool at place (Ok h) fits to is ends =
    let there = begins_record (drop at pool) h (IsBytes-drop at pool fits) is in
    let records = to.records ++ (there.id, there.object) ∷ [] in
    let parts : pool ≡ joined records ++ h.rest = joined_push to.records there.id there.object pool (drop at pool) h.rest to.parts there.parts in
    let len = ap length parts ∙ length-append (joined records) h.rest in
    let place_is : place ≡ length (joined records) = omega (arith, len, ends) in
    let rest_is : drop place pool ≡ h.rest = ap (drop place) parts ∙ drop_at (joined records) h.rest place (sym place_is) in
    record {
      records = records;
      whole = records_push to.records there.id there.object to.whole there.has;
      parts = parts ∙ ap (λ (l : List ℕ). joined records ++ l) (sym rest_is);
      place_is = place_is;
    }
next_cases pool at place (Err stop) fits to is ends = absurd ends

pub next_whole : (pool : List ℕ) (at place : ℕ) → IsBytes pool → AreWholeTo pool at → PassesRecord (length pool) at (Ok place) (record_at (drop at pool)) → AreWholeTo pool place
next_whole pool at place fits to ends = next_cases pool at place (record_at (drop at pool)) fits to refl ends

pub all_whole : (pool : List ℕ) (at : ℕ) → AreWholeTo pool at → length pool ≤ at → IsReadTo pool at None
all_whole pool at to le = (to, inl (drop_all at pool le))

-- ---- the first faulty record

fault_is : (pool : List ℕ) (at : ℕ) (stop : RecordFault) → IsBytes pool → AreWholeTo pool at → at < length pool → record_at (drop at pool) ≡ Err stop → IsFault pool (fault_at stop at)
fault_is pool at stop fits to lt is =
    is_fault pool to.records (drop at pool) at stop to.whole to.parts (omega (arith, length-drop at pool)) (omega (arith, length-drop at pool))
    (record_stops (drop at pool) stop (IsBytes-drop at pool fits) is)

stop_cases : (pool : List ℕ) (at : ℕ) (stop : RecordFault) → IsBytes pool → AreWholeTo pool at → at < length pool → record_at (drop at pool) ≡ Err stop → IsReadTo pool at (lasting_of (fault_at stop at))
stop_cases pool at stops.Truncated fits to lt is = (to, inr (record_stops (drop at pool) stops.Truncated (IsBytes-drop at pool fits) is))
stop_cases pool at stops.OutOfMemory fits to lt is = absurd (no_memory (drop at pool) (IsBytes-drop at pool fits) is)
stop_cases pool at stops.UnknownType fits to lt is = (fault_is pool at stops.UnknownType fits to lt is, tt)
stop_cases pool at stops.LeftOutType fits to lt is = (fault_is pool at stops.LeftOutType fits to lt is, tt)
stop_cases pool at (stops.Scale place) fits to lt is = (fault_is pool at (stops.Scale place) fits to lt is, tt)
stop_cases pool at (stops.Decimals place) fits to lt is = (fault_is pool at (stops.Decimals place) fits to lt is, tt)
stop_cases pool at stops.NullId fits to lt is = (fault_is pool at stops.NullId fits to lt is, tt)

read_cases : (pool : List ℕ) (at : ℕ) (fault : PoolFault) (r : Result ReadRecord RecordFault) → IsBytes pool → AreWholeTo pool at → at < length pool → record_at (drop at pool) ≡ r → PassesRecord (length pool) at (Err fault) r
    → IsReadTo pool at (lasting_of fault)
read_cases pool at fault (Ok h) fits to lt is stops = absurd stops
read_cases pool at fault (Err stop) fits to lt is stops =
    subst (λ (f : PoolFault). IsReadTo pool at (lasting_of f)) (sym stops) (stop_cases pool at stop fits to lt is)

pub stops_there : (pool : List ℕ) (at : ℕ) (fault : PoolFault) → IsBytes pool → AreWholeTo pool at → at < length pool → PassesRecord (length pool) at (Err fault) (record_at (drop at pool)) → IsReadTo pool at (lasting_of fault)
stops_there pool at fault fits to lt stops = read_cases pool at fault (record_at (drop at pool)) fits to lt refl stops

-- ---- more bytes after a read

pub were_whole : (bytes : List ℕ) (place : ℕ) → WereReadTo bytes place None → AreWholeTo bytes place
were_whole bytes place were = subst (λ (l : List ℕ). AreWholeTo l place) (sym were.parts) (whole_more were.before were.more place were.read.0)

pub were_faulty : (bytes : List ℕ) (place : ℕ) (fault : PoolFault) → WereReadTo bytes place (Some fault) → IsReadTo bytes place (Some fault)
were_faulty bytes place fault were =
    (subst (λ (l : List ℕ). IsFault l fault) (sym were.parts) (faults_last were.before were.more fault were.read.0 were.read.1), were.read.1)
