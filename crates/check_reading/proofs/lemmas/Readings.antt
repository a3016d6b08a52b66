-- Reading records one after another.
use Rattle.std.proofs.Common.{◌≡◌, ℕ, ◌+◌, ◌-◌, ◌<◌, Some, List, [], ◌∷◌, ◌++◌, drop, length, refl, sym, ap, ap₂, subst, ◌∙◌, arith}
use Rattle.std.proofs.lemmas.List.{append_assoc, drop-set-add, length-set}
use Rattle.std.specs.Prelude.{IsTrue, slice_set}
use Rattle.vt_kinds.specs.Records.{Seen, record_of, HasRecord}
use Rattle.vt_records.specs.declared.fault.PoolFault.{PoolFault}
use Rattle.vt_records.specs.declared.record_fault.RecordFault.{RecordFault}
use Rattle.vt_records.specs.declared.record_fault.RecordFault.TheVariants as stops
use Rattle.vt_records.specs.RecordFaults.{IsStop, fault_at}
use Rattle.vt_records.specs.Faults.{id_at, type_at}
use Rattle.check_reading.specs.declared.passed.PassedRecord.{PassedRecord}
use Rattle.check_reading.specs.Passed.{passed_size, passed_record}
use Rattle.check_reading.specs.Readings.{written, scale_one, is_mendable, mended, mended_at, EndsReading, Step, most_mended, IsReading, FoundAt, found_from, faults_from, passed_from, unread_from, NamesObjects}
use Rattle.check_reading.specs.Readings.Step.{Found, Mended, Passed, Ended}

-- ---- mended bytes

drop_written : (bytes : List ℕ) (at o : ℕ) (new : List ℕ) → drop at (written bytes (at + o) new) ≡ written (drop at bytes) o new
drop_written bytes at o [] = refl
drop_written bytes at o (b ∷ new) =
    let next : at + o + 1 ≡ at + (o + 1) = omega arith in
    ap (λ (k : ℕ). drop at (written (slice_set bytes (at + o) b) k new)) next
    ∙ drop_written (slice_set bytes (at + o) b) at (o + 1) new
    ∙ ap (λ (l : List ℕ). written l (o + 1) new) (drop-set-add at bytes o b)

pub drop_mended : (bytes : List ℕ) (at : ℕ) (fault : RecordFault) → drop at (mended_at at fault bytes) ≡ mended fault (drop at bytes)
drop_mended bytes at stops.Truncated = refl
drop_mended bytes at stops.UnknownType = refl
drop_mended bytes at stops.LeftOutType = refl
drop_mended bytes at (stops.Scale field) = drop_written bytes at field scale_one
drop_mended bytes at (stops.Decimals field) = drop_written bytes at field (7 ∷ [])
drop_mended bytes at stops.OutOfMemory = refl
drop_mended bytes at stops.NullId = refl

length_written : (bytes : List ℕ) (at : ℕ) (new : List ℕ) → length (written bytes at new) ≡ length bytes
length_written bytes at [] = refl
length_written bytes at (b ∷ new) = length_written (slice_set bytes at b) (at + 1) new ∙ length-set bytes at b

pub length_mended : (at : ℕ) (fault : RecordFault) (bytes : List ℕ) → length (mended_at at fault bytes) ≡ length bytes
length_mended at stops.Truncated bytes = refl
length_mended at stops.UnknownType bytes = refl
length_mended at stops.LeftOutType bytes = refl
length_mended at (stops.Scale field) bytes = length_written bytes (at + field) scale_one
length_mended at (stops.Decimals field) bytes = length_written bytes (at + field) (7 ∷ [])
length_mended at stops.OutOfMemory bytes = refl
length_mended at stops.NullId bytes = refl

-- ---- what is read so far

-- The steps of the remaining bytes go on to steps of all bytes.
pub record IsWhole (bytes : List ℕ) (at : ℕ) (found : List FoundAt) (faults : List PoolFault) (passed : List PassedRecord) (steps : List Step) : Type 0 where
  pub all : List Step
  pub reading : IsReading most_mended bytes all
  pub found_is : found_from 0 all ≡ found ++ found_from at steps
  pub faults_is : faults_from 0 all ≡ faults ++ faults_from at steps
  pub passed_is : passed_from 0 all ≡ passed ++ passed_from at steps
  pub unread_is : unread_from 0 all ≡ unread_from at steps

pub record IsReadingOn (bytes rest : List ℕ) (at left : ℕ) (found : List FoundAt) (faults : List PoolFault) (passed : List PassedRecord) : Type 0 where
  pub more : (steps : List Step) → IsReading left rest steps → IsWhole bytes at found faults passed steps

pub reading_begins : (bytes : List ℕ) → IsReadingOn bytes bytes 0 most_mended [] [] []
reading_begins bytes = record { more = λ steps is. record { all = steps; reading = is; found_is = refl; faults_is = refl; passed_is = refl; unread_is = refl } }

pub reads_record : (bytes rest next : List ℕ) (at to left : ℕ) (found new : List FoundAt) (faults : List PoolFault) (passed : List PassedRecord) (id : ℕ) (o : Seen)
    → IsReadingOn bytes rest at left found faults passed → HasRecord id o → rest ≡ record_of id o ++ next → to ≡ at + length (record_of id o)
    → new ≡ found ++ record { id = id; at = at; object = o } ∷ [] → IsReadingOn bytes next to most_mended new faults passed
reads_record bytes rest next at to left found new faults passed id o is has parts ends made = record {
  more = λ steps reading.
      let whole = is.more (Found id o ∷ steps) (has, (next, parts, reading)) in
      let f : FoundAt = record { id = id; at = at; object = o } in
      record {
        all = whole.all;
        reading = whole.reading;
        found_is = whole.found_is
            ∙ sym (append_assoc found (f ∷ []) (found_from (at + length (record_of id o)) steps))
            ∙ ap₂ (λ (l : List FoundAt) (k : ℕ). l ++ found_from k steps) (sym made) (sym ends);
        faults_is = whole.faults_is ∙ ap (λ (k : ℕ). faults ++ faults_from k steps) (sym ends);
        passed_is = whole.passed_is ∙ ap (λ (k : ℕ). passed ++ passed_from k steps) (sym ends);
        unread_is = whole.unread_is ∙ ap (λ (k : ℕ). unread_from k steps) (sym ends);
      };
}

pub reads_mended : (bytes rest better : List ℕ) (at left less : ℕ) (found : List FoundAt) (faults new : List PoolFault) (passed : List PassedRecord) (fault : RecordFault)
    → IsReadingOn bytes rest at left found faults passed → 0 < left → less ≡ left - 1 → IsTrue (is_mendable fault) → IsStop rest fault → better ≡ mended fault rest
    → new ≡ faults ++ fault_at fault at ∷ [] → IsReadingOn bytes better at less found new passed
reads_mended bytes rest better at left less found faults new passed fault is some one can stop made more = record {
  more = λ steps reading.
      let whole = is.more (Mended fault ∷ steps)
      (some, can, stop, subst (λ (l : List ℕ). IsReading (left - 1) l steps) made (subst (λ (k : ℕ). IsReading k better steps) one reading)) in
      record {
        all = whole.all;
        reading = whole.reading;
        found_is = whole.found_is;
        faults_is = whole.faults_is ∙ sym (append_assoc faults (fault_at fault at ∷ []) (faults_from at steps)) ∙ ap (λ (l : List PoolFault). l ++ faults_from at steps) (sym more);
        passed_is = whole.passed_is;
        unread_is = whole.unread_is;
      };
}

pub passes_record : (bytes rest next : List ℕ) (at left size : ℕ) (found : List FoundAt) (faults new : List PoolFault) (passed now : List PassedRecord) (fault : RecordFault)
    → IsReadingOn bytes rest at left found faults passed → IsStop rest fault → passed_size fault rest ≡ Some size → next ≡ drop size rest
    → new ≡ faults ++ fault_at fault at ∷ [] → now ≡ passed ++ passed_record rest at ∷ [] → IsReadingOn bytes next (at + size) most_mended found new now
passes_record bytes rest next at left size found faults new passed now fault is stop sized made more_faults more_passed = record {
  more = λ steps reading.
      let whole = is.more (Passed fault (id_at rest) (type_at rest) size ∷ steps)
      (stop, sized, refl, refl, subst (λ (l : List ℕ). IsReading most_mended l steps) made reading) in
      record {
        all = whole.all;
        reading = whole.reading;
        found_is = whole.found_is;
        faults_is = whole.faults_is ∙ sym (append_assoc faults (fault_at fault at ∷ []) (faults_from (at + size) steps))
            ∙ ap (λ (l : List PoolFault). l ++ faults_from (at + size) steps) (sym more_faults);
        passed_is = whole.passed_is ∙ sym (append_assoc passed (passed_record rest at ∷ []) (passed_from (at + size) steps))
            ∙ ap (λ (l : List PassedRecord). l ++ passed_from (at + size) steps) (sym more_passed);
        unread_is = whole.unread_is;
      };
}

pub reads_to_fault : (bytes rest : List ℕ) (at left : ℕ) (found : List FoundAt) (faults : List PoolFault) (passed : List PassedRecord) (fault : RecordFault)
    → IsReadingOn bytes rest at left found faults passed → 0 < length rest → IsStop rest fault → EndsReading left rest fault
    → IsWhole bytes at found faults passed (Ended fault ∷ [])
reads_to_fault bytes rest at left found faults passed fault is some stop ends = is.more (Ended fault ∷ []) (some, stop, ends, refl)

pub reads_to_end : (bytes rest : List ℕ) (at left : ℕ) (found : List FoundAt) (faults : List PoolFault) (passed : List PassedRecord)
    → IsReadingOn bytes rest at left found faults passed → rest ≡ [] → IsWhole bytes at found faults passed []
reads_to_end bytes rest at left found faults passed is none = is.more [] none

-- ---- the records that are read

pub names_read : (steps : List Step) (at left : ℕ) (bytes : List ℕ) → IsReading left bytes steps → NamesObjects (found_from at steps)
names_read [] at left bytes is = tt
names_read (Found id o ∷ steps) at left bytes is = (is.0.named, names_read steps (at + length (record_of id o)) most_mended is.1.0 is.1.2)
names_read (Mended fault ∷ steps) at left bytes is = names_read steps at (left - 1) (mended fault bytes) is.3
names_read (Passed fault id number size ∷ steps) at left bytes is = names_read steps (at + size) most_mended (drop size bytes) is.4
names_read (Ended fault ∷ steps) at left bytes is = tt
