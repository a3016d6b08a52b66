-- Skipping the record at the front of bytes: its ID and type, then its fields.
use Rattle.std.proofs.Common.{◌≡◌, ◌≢◌, ℕ, ◌-◌, ◌≤◌, Bool, cond, List, length, take, drop, Option, Some, Result, Ok, Err, refl, sym, ap, subst, ◌∙◌, arith}
use Rattle.std.proofs.lemmas.Bool.{eq-eqb, ne_eqb}
use Rattle.std.proofs.lemmas.List.{drop-drop, length-drop}
use Rattle.byteorder.specs.Endian.{little_number}
use Rattle.vt_kinds.specs.declared.kind.Kind.{Kind}
use Rattle.vt_kinds.specs.Ids.{null_id}
use Rattle.vt_kinds.specs.Layout.{Value}
use Rattle.vt_kinds.specs.Kinds.{kind_of_type}
use Rattle.vt_kinds.specs.Records.{fields_of}
use Rattle.vt_records.specs.declared.record_fault.RecordFault.{RecordFault}
use Rattle.vt_records.specs.declared.record_fault.RecordFault.TheVariants as stops
use Rattle.vt_records.specs.declared.fault.PoolFault.{PoolFault}
use Rattle.vt_records.specs.RecordFaults.{fault_at}
use Rattle.vt_records.specs.Heads.{ReadRecord, ◌>>=◌, or_stop, other_type, fields_at, record_at}
use Rattle.vt_records.specs.TableReads.{number_at}
use Rattle.vt_pool.specs.FieldLayouts.{HeadGives, PassesFields, PassesRecord}
use Rattle.vt_pool.proofs.FrontBytes.{number_front}
use Rattle.vt_records.proofs.RecordHeads.{of_values, of_kind, behind}

rest_is : (x y : ℕ × List ℕ) → ◌≡◌ {A = Option (ℕ × List ℕ)} (Some x) (Some y) → x.1 ≡ y.1
rest_is x y e = let same : x ≡ y = cc in ap (λ (z : ℕ × List ℕ). z.1) same

head_is : (all r s : List ℕ) (id type : ℕ) → 3 ≤ length all → number_at 2 all ≡ Some (id, r) → number_at 1 r ≡ Some (type, s) → record_at all ≡ behind id type (drop 3 all)
unfolding record_at
head_is all r s id type head first second =
    let r_is : r ≡ drop 2 all = rest_is (id, r) (little_number 2 (take 2 all), drop 2 all) (sym first ∙ number_front 2 all (omega arith)) in
    let len = ap length r_is ∙ length-drop 2 all in
    let s_is : s ≡ drop 1 r = rest_is (type, s) (little_number 1 (take 1 r), drop 1 r) (sym second ∙ number_front 1 r (omega (arith, len))) in
    let both : s ≡ drop 3 all = s_is ∙ ap (drop 1) r_is ∙ drop-drop 1 2 all in
    rw (first, second) (ap (λ (l : List ℕ). behind id type l) both)

pub null_head : (all r s : List ℕ) (id type : ℕ) → 3 ≤ length all → number_at 2 all ≡ Some (id, r) → number_at 1 r ≡ Some (type, s) → id ≡ null_id → record_at all ≡ Err stops.NullId
null_head all r s id type head first second is = head_is all r s id type head first second ∙ ap (λ (b : Bool). cond b (Err stops.NullId) (of_kind id type (drop 3 all) (kind_of_type type))) (eq-eqb id null_id is)

kind_cases : (all : List ℕ) (id type : ℕ) (k : Result Kind RecordFault) → or_stop (other_type type) (kind_of_type type) ≡ k → record_at all ≡ of_kind id type (drop 3 all) (kind_of_type type) → HeadGives k all
kind_cases all id type (Ok kind) is e = (id, e ∙ ap (λ (k : Result Kind RecordFault). k >>= λ q. of_values id q (fields_at (fields_of q) (drop 3 all))) is)
kind_cases all id type (Err stop) is e = e ∙ ap (λ (k : Result Kind RecordFault). k >>= λ q. of_values id q (fields_at (fields_of q) (drop 3 all))) is

pub kind_head : (all r s : List ℕ) (id type : ℕ) (k : Result Kind RecordFault) → 3 ≤ length all → number_at 2 all ≡ Some (id, r) → number_at 1 r ≡ Some (type, s) → id ≢ null_id → k ≡ or_stop (other_type type) (kind_of_type type) → HeadGives k all
kind_head all r s id type k head first second is kind =
    kind_cases all id type k (sym kind)
    (head_is all r s id type head first second ∙ ap (λ (b : Bool). cond b (Err stops.NullId) (of_kind id type (drop 3 all) (kind_of_type type))) (ne_eqb id null_id is))

-- ---- the fields after the head

pub stops_at_head : (count at : ℕ) (all : List ℕ) (stop : RecordFault) → HeadGives (Err stop) all → PassesRecord count at (Err (fault_at stop at)) (record_at all)
stops_at_head count at all stop is = rw is refl

rest_cases : (count at : ℕ) (id : ℕ) (kind : Kind) (rest : List ℕ) (read : Result (List Value × List ℕ) RecordFault) → length rest ≤ count → PassesFields (λ r. r) at (Ok rest) read
    → PassesRecord count at (Ok (count - length rest)) (of_values id kind read)
rest_cases count at id kind rest (Ok x) le is = let len = ap length is in omega (arith, len)
rest_cases count at id kind rest (Err stop) le is = absurd is

fault_cases : {X : Type 0} (view : X → List ℕ) (count at : ℕ) (id : ℕ) (kind : Kind) (fault : PoolFault) (read : Result (List Value × List ℕ) RecordFault) → PassesFields view at (Err fault) read
    → PassesRecord count at (Err fault) (of_values id kind read)
fault_cases view count at id kind fault (Ok x) is = absurd is
fault_cases view count at id kind fault (Err stop) is = is

ok_view : {X : Type 0} (view : X → List ℕ) (at : ℕ) (x : X) (read : Result (List Value × List ℕ) RecordFault) → PassesFields view at (Ok x) read → PassesFields (λ r. r) at (Ok (view x)) read
ok_view view at x (Ok y) is = is
ok_view view at x (Err stop) is = absurd is

pub ends_behind : {X : Type 0} (view : X → List ℕ) (count at : ℕ) (all : List ℕ) (kind : Kind) (x : X) → length (view x) ≤ count → HeadGives (Ok kind) all → PassesFields view at (Ok x) (fields_at (fields_of kind) (drop 3 all))
    → PassesRecord count at (Ok (count - length (view x))) (record_at all)
ends_behind view count at all kind x le head is =
    subst (λ (h : Result ReadRecord RecordFault). PassesRecord count at (Ok (count - length (view x))) h) (sym head.1)
    (rest_cases count at head.0 kind (view x) (fields_at (fields_of kind) (drop 3 all)) le (ok_view view at x (fields_at (fields_of kind) (drop 3 all)) is))

pub stops_behind : {X : Type 0} (view : X → List ℕ) (count at : ℕ) (all : List ℕ) (kind : Kind) (fault : PoolFault) → HeadGives (Ok kind) all → PassesFields view at (Err fault) (fields_at (fields_of kind) (drop 3 all))
    → PassesRecord count at (Err fault) (record_at all)
stops_behind view count at all kind fault head is =
    subst (λ (h : Result ReadRecord RecordFault). PassesRecord count at (Err fault) h) (sym head.1)
    (fault_cases view count at head.0 kind fault (fields_at (fields_of kind) (drop 3 all)) is)
