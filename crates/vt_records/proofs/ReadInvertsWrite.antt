-- Reading is the inverse of writing: a record read is the record written, and a record written is read.
use Rattle.std.proofs.Common.{◌≡◌, ◌≢◌, ℕ, ◌^◌, ◌<◌, Bool, true, false, cond, eqb, List, [], ◌∷◌, ◌++◌, length, get_or, Option, Some, None, Result, Ok, Err, refl, sym, ap, subst, ◌∙◌, arith}
use Rattle.std.proofs.lemmas.Bool.{eqb-false, ne_eqb}
use Rattle.std.proofs.lemmas.List.{append-nil, length-append}
use Rattle.byteorder.specs.Endian.{little_number, little_bytes}
use Rattle.byteorder.specs.Numbers.{little_from-lt, little_number-reads_back}
use Rattle.vt_kinds.specs.declared.kind.Kind.{Kind}
use Rattle.vt_kinds.specs.declared.object.Object.{Object}
use Rattle.vt_kinds.specs.declared.object.Object.TheVariants as objects
use Rattle.vt_kinds.specs.Ids.{null_id}
use Rattle.vt_kinds.specs.Layout.{Value, fields_spelling, FieldsFit, Proper, no_counts}
use Rattle.vt_kinds.specs.Kinds.{kind_number, kind_of_type}
use Rattle.vt_kinds.specs.Records.{Seen, seen, fields_of, kind_of, values_of, record_of, HasRecord}
use Rattle.vt_records.specs.declared.record_fault.RecordFault.{RecordFault}
use Rattle.vt_records.specs.declared.record_fault.RecordFault.TheVariants as stops
use Rattle.vt_records.specs.Heads.{ReadRecord, fields_at, record_at}
use Rattle.vt_records.specs.TableReads.{values_at}
use Rattle.vt_records.specs.NoProperPrefix.{RecordsAreWhole}
use Rattle.vt_records.proofs.Numbers.{IsBytes, IsBytes-rest, IsBytes-take, number_spelled}
use Rattle.vt_records.proofs.Tables.{values_take, values_again}
use Rattle.vt_records.proofs.Misfits.{proper, no_misfit, fitting_ok}
use Rattle.vt_records.proofs.FromValues.{object_from, same_object}
use Rattle.vt_records.proofs.RecordHeads.{kind_at_is, kind_of_type-kind_number, held, of_values, of_kind, behind, record_at-short, record_at-long}

-- ---- records read

test_ok : (b : Bool) (r : Result ReadRecord RecordFault) (h : ReadRecord) → cond b (Err stops.NullId) r ≡ Ok h → (b ≡ false) × (r ≡ Ok h)
test_ok true r h e = absurd cc
test_ok false r h e = (refl, e)

of_kind_ok : (id type : ℕ) (rest : List ℕ) (k : Option Kind) (h : ReadRecord) → of_kind id type rest k ≡ Ok h
    → (kind : Kind) × (k ≡ Some kind) × (of_values id kind (fields_at (fields_of kind) rest) ≡ Ok h)
of_kind_ok id type rest None h e = absurd cc
of_kind_ok id type rest (Some kind) h e = (kind, refl, e)

of_values_ok : (id : ℕ) (kind : Kind) (vs : Result (List Value × List ℕ) RecordFault) (h : ReadRecord) → of_values id kind vs ≡ Ok h
    → (x : List Value × List ℕ) × (vs ≡ Ok x) × (held id kind x ≡ h)
of_values_ok id kind (Err stop) h e = absurd cc
of_values_ok id kind (Ok x) h e = (x, refl, (let same : held id kind x ≡ h = cc in same))

-- the bytes of a record, from its ID, kind and values
abbrev pub spelled : ℕ → Kind → List Value → List ℕ
spelled id kind vs = little_bytes 2 id ++ kind_number kind ∷ fields_spelling (fields_of kind) vs

-- the bytes begin with a record
pub record IsRead (all : List ℕ) (h : ReadRecord) : Type 0 where
  pub parts : all ≡ spelled h.id h.kind h.values ++ h.rest
  pub named : h.id < null_id
  pub fields_fit : FieldsFit (fields_of h.kind) no_counts h.values
  pub proper : Proper (fields_of h.kind) h.values

long_is_read : (a b c : ℕ) (rest : List ℕ) (h : ReadRecord) → IsBytes (a ∷ b ∷ c ∷ rest) → behind (little_number 2 (a ∷ b ∷ [])) c rest ≡ Ok h → IsRead (a ∷ b ∷ c ∷ rest) h
long_is_read a b c rest h fits e =
    let front = a ∷ b ∷ [] in
    let id = little_number 2 front in
    let front_fits : IsBytes front = IsBytes-take 2 (a ∷ b ∷ c ∷ rest) fits in
    let rest_fits : IsBytes rest = IsBytes-rest c rest (IsBytes-rest b (c ∷ rest) (IsBytes-rest a (b ∷ c ∷ rest) fits)) in
    let t = test_ok (eqb id null_id) (of_kind id c rest (kind_of_type c)) h e in
    let k = of_kind_ok id c rest (kind_of_type c) h t.1 in
    let v = of_values_ok id k.0 (fields_at (fields_of k.0) rest) h k.2 in
    let read = fitting_ok (fields_of k.0) (values_at (fields_of k.0) no_counts rest) v.0 v.1 in
    let took = values_take (fields_of k.0) no_counts rest v.0 rest_fits read.0 in
    let type : c ≡ kind_number k.0 = kind_at_is c k.0 k.1 in
    let text = fields_spelling (fields_of k.0) v.0.0 in
    let behind_it : c ∷ rest ≡ kind_number k.0 ∷ (text ++ v.0.1) = ap (λ (n : ℕ). n ∷ rest) type ∙ ap (λ (r : List ℕ). kind_number k.0 ∷ r) took.0.parts in
    let parts : a ∷ b ∷ c ∷ rest ≡ spelled id k.0 v.0.0 ++ v.0.1 =
    ap (λ (r : List ℕ). front ++ r) behind_it ∙ ap (λ (f : List ℕ). f ++ (kind_number k.0 ∷ (text ++ v.0.1))) (sym (number_spelled front front_fits)) in
    let below : id < 256 ^ 2 = little_from-lt 0 2 front front_fits in
    let other : id ≢ null_id = eqb-false id null_id t.0 in
    subst (IsRead (a ∷ b ∷ c ∷ rest)) v.2 (record { parts = parts; named = omega arith; fields_fit = took.1; proper = proper 3 (fields_of k.0) v.0.0 read.1 })

pub is_read : (all : List ℕ) (h : ReadRecord) → IsBytes all → record_at all ≡ Ok h → IsRead all h
is_read [] h fits e = let no = sym (record_at-short [] (omega arith)) ∙ e in absurd cc
is_read (a ∷ []) h fits e = let no = sym (record_at-short (a ∷ []) (omega arith)) ∙ e in absurd cc
is_read (a ∷ b ∷ []) h fits e = let no = sym (record_at-short (a ∷ b ∷ []) (omega arith)) ∙ e in absurd cc
is_read (a ∷ b ∷ c ∷ rest) h fits e = long_is_read a b c rest h fits (sym (record_at-long a b c rest) ∙ e)

-- ---- records written

-- the record of an object as a `ReadRecord`
abbrev pub held_of : ℕ → Seen → List ℕ → ReadRecord
held_of id o rest = held id (kind_of o) (values_of o, rest)

pub record_again : (id : ℕ) (o : Seen) (rest : List ℕ) → HasRecord id o → record_at (record_of id o ++ rest) ≡ Ok (held_of id o rest)
record_again id o rest has =
    let k = kind_of o in
    let bytes = little_bytes 2 id in
    let named = has.named in
    let back : little_number 2 bytes ≡ id = little_number-reads_back 2 id [] (omega arith) in
    let other : eqb id null_id ≡ false = ne_eqb id null_id (omega arith) in
    record_at-long (get_or bytes 0 0) (get_or bytes 1 0) (kind_number k) (fields_spelling (fields_of k) (values_of o) ++ rest)
    ∙ rw (back, other, kind_of_type-kind_number k, values_again (fields_of k) no_counts (values_of o) rest has.fields_fit, no_misfit 3 (fields_of k) (values_of o) has.proper) refl

-- two records at the front of the same bytes are equal
pub record AreSame (a b : ℕ) (o p : Seen) (rest tail : List ℕ) : Type 0 where
  pub same_id : a ≡ b
  pub same_object : o ≡ p
  pub same_rest : rest ≡ tail

ok_is : (x y : ReadRecord) → ◌≡◌ {A = Result ReadRecord RecordFault} (Ok x) (Ok y) → x ≡ y
ok_is x y e = cc

pub same_record : (a b : ℕ) (o p : Seen) (rest tail : List ℕ) → HasRecord a o → HasRecord b p → record_of a o ++ rest ≡ record_of b p ++ tail → AreSame a b o p rest tail
same_record a b o p rest tail has other parts =
    let same : held_of a o rest ≡ held_of b p tail = ok_is (held_of a o rest) (held_of b p tail) (sym (record_again a o rest has) ∙ ap record_at parts ∙ record_again b p tail other) in
    let one : object_from (kind_of o) (values_of o) ≡ object_from (kind_of p) (values_of p) = ap (λ (h : ReadRecord). object_from h.kind h.values) same in
    record { same_id = ap (λ (h : ReadRecord). h.id) same; same_object = same_object o p one; same_rest = ap (λ (h : ReadRecord). h.rest) same }

pub are_whole : RecordsAreWhole
are_whole a b o p rest has other parts =
    let same = same_record a b o p rest [] has other (parts ∙ sym (append-nil (record_of b p))) in
    (same.same_rest, same.same_id, same.same_object)

-- ---- objects with any byte buffer

has_record : {B : Type 0} (id : ℕ) (o : Object B) → id < null_id → FieldsFit (fields_of (kind_of o)) no_counts (values_of o) → Proper (fields_of (kind_of o)) (values_of o) → HasRecord id (seen o)
has_record id (objects.WorkingSet o) named fit proper = record { named = named; fields_fit = fit; proper = proper }
has_record id o named fit proper = record { named = named; fields_fit = fit; proper = proper }

record_of-seen : {B : Type 0} (id : ℕ) (o : Object B) → record_of id o ≡ record_of id (seen o)
record_of-seen id (objects.WorkingSet o) = refl
record_of-seen id o = refl

-- the bytes begin with the record of an object
pub record IsTaken (all : List ℕ) (id : ℕ) (o : Seen) (rest : List ℕ) : Type 0 where
  pub has : HasRecord id o
  pub parts : all ≡ record_of id o ++ rest
  pub shorter : length rest < length all

pub is_taken : {B : Type 0} (all : List ℕ) (id : ℕ) (o : Object B) (rest : List ℕ) → IsBytes all → record_at all ≡ Ok (held id (kind_of o) (values_of o, rest)) → IsTaken all id (seen o) rest
is_taken all id o rest fits e =
    let read = is_read all (held id (kind_of o) (values_of o, rest)) fits e in
    record {
      has = has_record id o read.named read.fields_fit read.proper;
      parts = read.parts ∙ ap (λ (r : List ℕ). r ++ rest) (record_of-seen id o);
      shorter = let len = ap length read.parts ∙ length-append (record_of id o) rest in omega (arith, len);
    }
