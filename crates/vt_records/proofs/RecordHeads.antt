-- The head of a record: its ID and type, and the result of `record_at` for them.
use Rattle.std.proofs.Common.{◌≡◌, ℕ, ◌<◌, Bool, true, false, cond, eqb, ltb, List, [], ◌∷◌, length, Option, Some, Result, Ok, Err, refl, ap, ◌∙◌, arith}
use Rattle.std.proofs.lemmas.Bool.{eqb-true, le-ltb}
use Rattle.byteorder.specs.Endian.{little_number}
use Rattle.vt_kinds.specs.declared.kind.Kind.{Kind}
use Rattle.vt_kinds.specs.declared.kind.Kind.TheVariants as kinds
use Rattle.vt_kinds.specs.Ids.{null_id}
use Rattle.vt_kinds.specs.Layout.{Value}
use Rattle.vt_kinds.specs.Kinds.{kind_number, kind_of_type, kind_among, every_kind}
use Rattle.vt_kinds.specs.Records.{fields_of}
use Rattle.vt_records.specs.declared.record_fault.RecordFault.{RecordFault}
use Rattle.vt_records.specs.declared.record_fault.RecordFault.TheVariants as stops
use Rattle.vt_records.specs.Heads.{ReadRecord, ◌>>=◌, or_stop, other_type, fields_at, record_at}
use Rattle.vt_records.specs.TableReads.{bytes_at, number_at}

-- ---- kinds and type numbers

among_cases : (b : Bool) (k0 : Kind) (others : Option Kind) (n : ℕ) (k : Kind) → cond b (Some k0) others ≡ Some k → (b ≡ true → n ≡ kind_number k0) → (others ≡ Some k → n ≡ kind_number k) → n ≡ kind_number k
among_cases true k0 others n k e here later = here refl ∙ ap kind_number (let same : k0 ≡ k = cc in same)
among_cases false k0 others n k e here later = later e

kind_among_is : (ks : List Kind) (n : ℕ) (k : Kind) → kind_among ks n ≡ Some k → n ≡ kind_number k
kind_among_is [] n k e = absurd cc
kind_among_is (k0 ∷ ks) n k e = among_cases (eqb n (kind_number k0)) k0 (kind_among ks n) n k e (eqb-true n (kind_number k0)) (kind_among_is ks n k)

-- a type number belongs to one kind
pub kind_at_is : (n : ℕ) (k : Kind) → kind_of_type n ≡ Some k → n ≡ kind_number k
kind_at_is n k e = kind_among_is every_kind n k e

pub kind_of_type-kind_number : (k : Kind) → kind_of_type (kind_number k) ≡ Some k
kind_of_type-kind_number kinds.WorkingSet = refl
kind_of_type-kind_number kinds.DataMask = refl
kind_of_type-kind_number kinds.AlarmMask = refl
kind_of_type-kind_number kinds.Container = refl
kind_of_type-kind_number kinds.SoftKeyMask = refl
kind_of_type-kind_number kinds.Key = refl
kind_of_type-kind_number kinds.Button = refl
kind_of_type-kind_number kinds.InputBoolean = refl
kind_of_type-kind_number kinds.InputString = refl
kind_of_type-kind_number kinds.InputNumber = refl
kind_of_type-kind_number kinds.InputList = refl
kind_of_type-kind_number kinds.OutputString = refl
kind_of_type-kind_number kinds.OutputNumber = refl
kind_of_type-kind_number kinds.Line = refl
kind_of_type-kind_number kinds.Rectangle = refl
kind_of_type-kind_number kinds.Ellipse = refl
kind_of_type-kind_number kinds.Polygon = refl
kind_of_type-kind_number kinds.Meter = refl
kind_of_type-kind_number kinds.LinearBar = refl
kind_of_type-kind_number kinds.ArchedBar = refl
kind_of_type-kind_number kinds.Picture = refl
kind_of_type-kind_number kinds.NumberVariable = refl
kind_of_type-kind_number kinds.StringVariable = refl
kind_of_type-kind_number kinds.Font = refl
kind_of_type-kind_number kinds.LineAttributes = refl
kind_of_type-kind_number kinds.FillAttributes = refl
kind_of_type-kind_number kinds.InputAttributes = refl
kind_of_type-kind_number kinds.ObjectPointer = refl
kind_of_type-kind_number kinds.Macro = refl

-- ---- the fields after the ID and the type

-- a record of a kind with these values, and the remaining bytes
abbrev pub held : ℕ → Kind → List Value × List ℕ → ReadRecord
held id kind vs = record { id = id; kind = kind; values = vs.0; rest = vs.1 }

abbrev pub of_values : ℕ → Kind → Result (List Value × List ℕ) RecordFault → Result ReadRecord RecordFault
of_values id kind vs = vs >>= λ v. Ok (held id kind v)

abbrev pub of_kind : ℕ → ℕ → List ℕ → Option Kind → Result ReadRecord RecordFault
of_kind id type rest kind = or_stop (other_type type) kind >>= λ k. of_values id k (fields_at (fields_of k) rest)

abbrev pub behind : ℕ → ℕ → List ℕ → Result ReadRecord RecordFault
behind id type rest = cond (eqb id null_id) (Err stops.NullId) (of_kind id type rest (kind_of_type type))

pub record_at-short : (all : List ℕ) → length all < 3 → record_at all ≡ Err stops.Truncated
unfolding record_at number_at bytes_at
record_at-short [] lt = refl
record_at-short (a ∷ []) lt = refl
record_at-short (a ∷ b ∷ []) lt = refl
record_at-short (a ∷ b ∷ c ∷ rest) lt = absurd (omega arith)

number_at-two : (a b : ℕ) (rest : List ℕ) → number_at 2 (a ∷ b ∷ rest) ≡ Some (little_number 2 (a ∷ b ∷ []), rest)
unfolding number_at bytes_at
number_at-two a b rest =
    let long : ltb (length (a ∷ b ∷ rest)) 2 ≡ false = le-ltb _ _ (omega arith) in
    rw long refl

number_at-one : (c : ℕ) (rest : List ℕ) → number_at 1 (c ∷ rest) ≡ Some (c, rest)
unfolding number_at bytes_at
number_at-one c rest =
    let long : ltb (length (c ∷ rest)) 1 ≡ false = le-ltb _ _ (omega arith) in
    let whole : little_number 1 (c ∷ []) ≡ c = omega arith in
    rw (long, whole) refl

pub record_at-long : (a b c : ℕ) (rest : List ℕ) → record_at (a ∷ b ∷ c ∷ rest) ≡ behind (little_number 2 (a ∷ b ∷ [])) c rest
unfolding record_at
record_at-long a b c rest = rw (number_at-two a b (c ∷ rest), number_at-one c rest) refl
