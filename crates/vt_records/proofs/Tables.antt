-- The values of a table read from the front of bytes fit their fields and encode to the same bytes.
use Rattle.std.proofs.Common.{◌≡◌, ℕ, zero, suc, ◌+◌, ◌<◌, List, [], ◌∷◌, ◌++◌, length, Option, Some, None, Err, refl, ap, subst, ◌∙◌, append_assoc, arith}
use Rattle.std.specs.List.{AllByRecursion}
use Rattle.std.proofs.lemmas.List.Elements.{recursion_from_All, All-from_get_or}
use Rattle.byteorder.specs.Endian.{little_bytes}
use Rattle.std.specs.Int.{cast_unsigned}
use Rattle.vt_kinds.specs.Layout.{Size, Unsigned, Signed, Numeral, natural, integer, bytes_in, RecordField, Number, Count, Rows, Bytes, ScaleBytes, DecimalPlaces, Value, number, rows, bytes, RecordCounts, counted, count_of, row_spelling, rows_spelling, fields_spelling, RowFits, FieldsFit, no_counts}
use Rattle.vt_records.specs.declared.record_fault.RecordFault.TheVariants as stops
use Rattle.vt_records.specs.Heads.{fitting, fields_at}
use Rattle.vt_records.specs.TableReads.{◌>>=◌, bytes_at, number_at, signed_at, row_at, rows_at, values_at, head_size}
use Rattle.vt_records.proofs.Numbers.{IsBytes, bind_some, some_is, Takes, Takes-nothing, Takes-then, bytes_take, bytes_again, number_takes, number_again, signed_takes, signed_again, number_then_short, signed_then_short}

-- ---- rows of a list

pub row_takes : (sizes : List Size) (all : List ℕ) (x : List Numeral × List ℕ) → IsBytes all → row_at sizes all ≡ Some x → Takes all (row_spelling sizes x.0) x.1 × RowFits sizes x.0
unfolding row_at
row_takes [] all x fits e =
    subst (λ (y : List Numeral × List ℕ). Takes all (row_spelling [] y.0) y.1 × RowFits [] y.0) (some_is ([], all) x e) (Takes-nothing all fits, tt)
row_takes (Unsigned size ∷ sizes) all x fits e =
    let a = bind_some (number_at size all) (λ n. row_at sizes n.1 >>= λ ns. Some (natural n.0 ∷ ns.0, ns.1)) x e in
    let b = bind_some (row_at sizes a.0.1) (λ ns. Some (natural a.0.0 ∷ ns.0, ns.1)) x a.2 in
    let first = number_takes size all a.0 fits a.1 in
    let others = row_takes sizes a.0.1 b.0 first.0.rest_fits b.1 in
    subst (λ (y : List Numeral × List ℕ). Takes all (row_spelling (Unsigned size ∷ sizes) y.0) y.1 × RowFits (Unsigned size ∷ sizes) y.0) (some_is (natural a.0.0 ∷ b.0.0, b.0.1) x b.2)
    (Takes-then all (little_bytes size a.0.0) a.0.1 (row_spelling sizes b.0.0) b.0.1 first.0 others.0, (first.1, others.1))
row_takes (Signed w ∷ sizes) all x fits e =
    let a = bind_some (signed_at w all) (λ n. row_at sizes n.1 >>= λ ns. Some (integer n.0 ∷ ns.0, ns.1)) x e in
    let b = bind_some (row_at sizes a.0.1) (λ ns. Some (integer a.0.0 ∷ ns.0, ns.1)) x a.2 in
    let first = signed_takes w all a.0 fits a.1 in
    let others = row_takes sizes a.0.1 b.0 first.0.rest_fits b.1 in
    subst (λ (y : List Numeral × List ℕ). Takes all (row_spelling (Signed w ∷ sizes) y.0) y.1 × RowFits (Signed w ∷ sizes) y.0) (some_is (integer a.0.0 ∷ b.0.0, b.0.1) x b.2)
    (Takes-then all (little_bytes (bytes_in w) (cast_unsigned w a.0.0)) a.0.1 (row_spelling sizes b.0.0) b.0.1 first.0 others.0, (first.1, others.1))

pub row_again : (sizes : List Size) (ns : List Numeral) (rest : List ℕ) → RowFits sizes ns → row_at sizes (row_spelling sizes ns ++ rest) ≡ Some (ns, rest)
unfolding row_at
row_again [] [] rest fits = refl
row_again [] (n ∷ ns) rest fits = absurd fits
row_again (size ∷ sizes) [] rest fits = absurd fits
row_again (Unsigned size ∷ sizes) (natural n ∷ ns) rest fits =
    ap (row_at (Unsigned size ∷ sizes)) (append_assoc (little_bytes size n) (row_spelling sizes ns) rest)
    ∙ rw (number_again size n (row_spelling sizes ns ++ rest) fits.0, row_again sizes ns rest fits.1) refl
row_again (Signed w ∷ sizes) (integer z ∷ ns) rest fits =
    ap (row_at (Signed w ∷ sizes)) (append_assoc (little_bytes (bytes_in w) (cast_unsigned w z)) (row_spelling sizes ns) rest)
    ∙ rw (signed_again w z (row_spelling sizes ns ++ rest) fits.0, row_again sizes ns rest fits.1) refl
row_again (Unsigned size ∷ sizes) (integer z ∷ ns) rest fits = absurd fits.0
row_again (Signed w ∷ sizes) (natural n ∷ ns) rest fits = absurd fits.0

pub rows_take : (sizes : List Size) (count : ℕ) (all : List ℕ) (x : List (List Numeral) × List ℕ) → IsBytes all → rows_at sizes count all ≡ Some x
    → Takes all (rows_spelling sizes x.0) x.1 × (length x.0 ≡ count) × AllByRecursion (RowFits sizes) x.0
unfolding rows_at
rows_take sizes zero all x fits e =
    subst (λ (y : List (List Numeral) × List ℕ). Takes all (rows_spelling sizes y.0) y.1 × (length y.0 ≡ 0) × AllByRecursion (RowFits sizes) y.0) (some_is ([], all) x e) (Takes-nothing all fits, refl, tt)
rows_take sizes (suc count) all x fits e =
    let a = bind_some (row_at sizes all) (λ first. rows_at sizes count first.1 >>= λ others. Some (first.0 ∷ others.0, others.1)) x e in
    let b = bind_some (rows_at sizes count a.0.1) (λ others. Some (a.0.0 ∷ others.0, others.1)) x a.2 in
    let first = row_takes sizes all a.0 fits a.1 in
    let others = rows_take sizes count a.0.1 b.0 first.0.rest_fits b.1 in
    subst (λ (y : List (List Numeral) × List ℕ). Takes all (rows_spelling sizes y.0) y.1 × (length y.0 ≡ suc count) × AllByRecursion (RowFits sizes) y.0) (some_is (a.0.0 ∷ b.0.0, b.0.1) x b.2)
    (Takes-then all (row_spelling sizes a.0.0) a.0.1 (rows_spelling sizes b.0.0) b.0.1 first.0 others.0, ap suc others.1, (first.1, others.2))

pub rows_again : (sizes : List Size) (rs : List (List Numeral)) (rest : List ℕ) → AllByRecursion (RowFits sizes) rs → rows_at sizes (length rs) (rows_spelling sizes rs ++ rest) ≡ Some (rs, rest)
unfolding rows_at
rows_again sizes [] rest fits = refl
rows_again sizes (r ∷ rs) rest fits =
    ap (rows_at sizes (suc (length rs))) (append_assoc (row_spelling sizes r) (rows_spelling sizes rs) rest)
    ∙ rw (row_again sizes r (rows_spelling sizes rs ++ rest) fits.0, rows_again sizes rs rest fits.1) refl

-- ---- tables of fields

bytes_fit : (bs : List ℕ) → IsBytes bs → AllByRecursion (λ b. b < 256) bs
bytes_fit bs fits = recursion_from_All (λ b. b < 256) bs (All-from_get_or (λ b. b < 256) bs 0 (λ i lt. fits i))

-- a table reads values that fit it, from the bytes of their encoding
abbrev TakesValues : List RecordField → RecordCounts → List ℕ → List Value × List ℕ → Type 0
TakesValues fs counts all x = Takes all (fields_spelling fs x.0) x.1 × FieldsFit fs counts x.0

pub values_take : (fs : List RecordField) (counts : RecordCounts) (all : List ℕ) (x : List Value × List ℕ) → IsBytes all → values_at fs counts all ≡ Some x → TakesValues fs counts all x
values_take [] counts all x fits e =
    subst (TakesValues [] counts all) (some_is ([], all) x e) (Takes-nothing all fits, tt)
values_take (Number (Unsigned size) ∷ fs) counts all x fits e =
    let a = bind_some (number_at size all) (λ n. values_at fs counts n.1 >>= λ vs. Some (number (natural n.0) ∷ vs.0, vs.1)) x e in
    let b = bind_some (values_at fs counts a.0.1) (λ vs. Some (number (natural a.0.0) ∷ vs.0, vs.1)) x a.2 in
    let first = number_takes size all a.0 fits a.1 in
    let others = values_take fs counts a.0.1 b.0 first.0.rest_fits b.1 in
    subst (TakesValues (Number (Unsigned size) ∷ fs) counts all) (some_is (number (natural a.0.0) ∷ b.0.0, b.0.1) x b.2)
    (Takes-then all (little_bytes size a.0.0) a.0.1 (fields_spelling fs b.0.0) b.0.1 first.0 others.0, (first.1, others.1))
values_take (Number (Signed w) ∷ fs) counts all x fits e =
    let a = bind_some (signed_at w all) (λ n. values_at fs counts n.1 >>= λ vs. Some (number (integer n.0) ∷ vs.0, vs.1)) x e in
    let b = bind_some (values_at fs counts a.0.1) (λ vs. Some (number (integer a.0.0) ∷ vs.0, vs.1)) x a.2 in
    let first = signed_takes w all a.0 fits a.1 in
    let others = values_take fs counts a.0.1 b.0 first.0.rest_fits b.1 in
    subst (TakesValues (Number (Signed w) ∷ fs) counts all) (some_is (number (integer a.0.0) ∷ b.0.0, b.0.1) x b.2)
    (Takes-then all (little_bytes (bytes_in w) (cast_unsigned w a.0.0)) a.0.1 (fields_spelling fs b.0.0) b.0.1 first.0 others.0, (first.1, others.1))
values_take (Count size of ∷ fs) counts all x fits e =
    let a = bind_some (number_at size all) (λ n. values_at fs (counted of n.0 counts) n.1 >>= λ vs. Some (number (natural n.0) ∷ vs.0, vs.1)) x e in
    let b = bind_some (values_at fs (counted of a.0.0 counts) a.0.1) (λ vs. Some (number (natural a.0.0) ∷ vs.0, vs.1)) x a.2 in
    let first = number_takes size all a.0 fits a.1 in
    let others = values_take fs (counted of a.0.0 counts) a.0.1 b.0 first.0.rest_fits b.1 in
    subst (TakesValues (Count size of ∷ fs) counts all) (some_is (number (natural a.0.0) ∷ b.0.0, b.0.1) x b.2)
    (Takes-then all (little_bytes size a.0.0) a.0.1 (fields_spelling fs b.0.0) b.0.1 first.0 others.0, (first.1, others.1))
values_take (Rows of sizes ∷ fs) counts all x fits e =
    let a = bind_some (rows_at sizes (count_of of counts) all) (λ rs. values_at fs counts rs.1 >>= λ vs. Some (rows rs.0 ∷ vs.0, vs.1)) x e in
    let b = bind_some (values_at fs counts a.0.1) (λ vs. Some (rows a.0.0 ∷ vs.0, vs.1)) x a.2 in
    let first = rows_take sizes (count_of of counts) all a.0 fits a.1 in
    let others = values_take fs counts a.0.1 b.0 first.0.rest_fits b.1 in
    subst (TakesValues (Rows of sizes ∷ fs) counts all) (some_is (rows a.0.0 ∷ b.0.0, b.0.1) x b.2)
    (Takes-then all (rows_spelling sizes a.0.0) a.0.1 (fields_spelling fs b.0.0) b.0.1 first.0 others.0, (first.1, first.2, others.1))
values_take (Bytes of ∷ fs) counts all x fits e =
    let a = bind_some (bytes_at (count_of of counts) all) (λ bs. values_at fs counts bs.1 >>= λ vs. Some (bytes bs.0 ∷ vs.0, vs.1)) x e in
    let b = bind_some (values_at fs counts a.0.1) (λ vs. Some (bytes a.0.0 ∷ vs.0, vs.1)) x a.2 in
    let first = bytes_take (count_of of counts) all a.0 fits a.1 in
    let others = values_take fs counts a.0.1 b.0 first.0.rest_fits b.1 in
    subst (TakesValues (Bytes of ∷ fs) counts all) (some_is (bytes a.0.0 ∷ b.0.0, b.0.1) x b.2)
    (Takes-then all a.0.0 a.0.1 (fields_spelling fs b.0.0) b.0.1 first.0 others.0, (first.1, bytes_fit a.0.0 first.2, others.1))
values_take (ScaleBytes ∷ fs) counts all x fits e =
    let a = bind_some (number_at 4 all) (λ n. values_at fs counts n.1 >>= λ vs. Some (number (natural n.0) ∷ vs.0, vs.1)) x e in
    let b = bind_some (values_at fs counts a.0.1) (λ vs. Some (number (natural a.0.0) ∷ vs.0, vs.1)) x a.2 in
    let first = number_takes 4 all a.0 fits a.1 in
    let others = values_take fs counts a.0.1 b.0 first.0.rest_fits b.1 in
    subst (TakesValues (ScaleBytes ∷ fs) counts all) (some_is (number (natural a.0.0) ∷ b.0.0, b.0.1) x b.2)
    (Takes-then all (little_bytes 4 a.0.0) a.0.1 (fields_spelling fs b.0.0) b.0.1 first.0 others.0, (first.1, others.1))
values_take (DecimalPlaces ∷ fs) counts all x fits e =
    let a = bind_some (number_at 1 all) (λ n. values_at fs counts n.1 >>= λ vs. Some (number (natural n.0) ∷ vs.0, vs.1)) x e in
    let b = bind_some (values_at fs counts a.0.1) (λ vs. Some (number (natural a.0.0) ∷ vs.0, vs.1)) x a.2 in
    let first = number_takes 1 all a.0 fits a.1 in
    let others = values_take fs counts a.0.1 b.0 first.0.rest_fits b.1 in
    subst (TakesValues (DecimalPlaces ∷ fs) counts all) (some_is (number (natural a.0.0) ∷ b.0.0, b.0.1) x b.2)
    (Takes-then all (little_bytes 1 a.0.0) a.0.1 (fields_spelling fs b.0.0) b.0.1 first.0 others.0, (first.1, others.1))

pub values_again : (fs : List RecordField) (counts : RecordCounts) (vs : List Value) (rest : List ℕ) → FieldsFit fs counts vs → values_at fs counts (fields_spelling fs vs ++ rest) ≡ Some (vs, rest)
values_again [] counts [] rest fits = refl
values_again (Number (Unsigned size) ∷ fs) counts (number (natural n) ∷ vs) rest fits =
    ap (values_at (Number (Unsigned size) ∷ fs) counts) (append_assoc (little_bytes size n) (fields_spelling fs vs) rest)
    ∙ rw (number_again size n (fields_spelling fs vs ++ rest) fits.0, values_again fs counts vs rest fits.1) refl
values_again (Number (Signed w) ∷ fs) counts (number (integer z) ∷ vs) rest fits =
    ap (values_at (Number (Signed w) ∷ fs) counts) (append_assoc (little_bytes (bytes_in w) (cast_unsigned w z)) (fields_spelling fs vs) rest)
    ∙ rw (signed_again w z (fields_spelling fs vs ++ rest) fits.0, values_again fs counts vs rest fits.1) refl
values_again (Number (Unsigned size) ∷ fs) counts (number (integer z) ∷ vs) rest fits = absurd fits.0
values_again (Number (Signed w) ∷ fs) counts (number (natural n) ∷ vs) rest fits = absurd fits.0
values_again (Count size of ∷ fs) counts (number (natural n) ∷ vs) rest fits =
    ap (values_at (Count size of ∷ fs) counts) (append_assoc (little_bytes size n) (fields_spelling fs vs) rest)
    ∙ rw (number_again size n (fields_spelling fs vs ++ rest) fits.0, values_again fs (counted of n counts) vs rest fits.1) refl
values_again (Rows of sizes ∷ fs) counts (rows rs ∷ vs) rest fits =
    let read : rows_at sizes (count_of of counts) (rows_spelling sizes rs ++ (fields_spelling fs vs ++ rest)) ≡ Some (rs, fields_spelling fs vs ++ rest) =
    subst (λ (n : ℕ). rows_at sizes n (rows_spelling sizes rs ++ (fields_spelling fs vs ++ rest)) ≡ Some (rs, fields_spelling fs vs ++ rest)) fits.0 (rows_again sizes rs (fields_spelling fs vs ++ rest) fits.1) in
    ap (values_at (Rows of sizes ∷ fs) counts) (append_assoc (rows_spelling sizes rs) (fields_spelling fs vs) rest)
    ∙ rw (read, values_again fs counts vs rest fits.2) refl
values_again (Bytes of ∷ fs) counts (bytes bs ∷ vs) rest fits =
    ap (values_at (Bytes of ∷ fs) counts) (append_assoc bs (fields_spelling fs vs) rest)
    ∙ rw (bytes_again bs (fields_spelling fs vs ++ rest) (count_of of counts) fits.0, values_again fs counts vs rest fits.2) refl
values_again (ScaleBytes ∷ fs) counts (number (natural n) ∷ vs) rest fits =
    ap (values_at (ScaleBytes ∷ fs) counts) (append_assoc (little_bytes 4 n) (fields_spelling fs vs) rest)
    ∙ rw (number_again 4 n (fields_spelling fs vs ++ rest) fits.0, values_again fs counts vs rest fits.1) refl
values_again (DecimalPlaces ∷ fs) counts (number (natural n) ∷ vs) rest fits =
    ap (values_at (DecimalPlaces ∷ fs) counts) (append_assoc (little_bytes 1 n) (fields_spelling fs vs) rest)
    ∙ rw (number_again 1 n (fields_spelling fs vs ++ rest) fits.0, values_again fs counts vs rest fits.1) refl
values_again fs counts vs rest fits = absurd fits

-- ---- too few bytes

abbrev then_values : Value → Option (List Value × List ℕ) → Option (List Value × List ℕ)
then_values v read = read >>= λ vs. Some (v ∷ vs.0, vs.1)

number_first : (size : ℕ) (fs : List RecordField) (all : List ℕ) (give : ℕ → RecordCounts) (value : ℕ → Value) → length all < size + head_size fs
    → ((counts : RecordCounts) (rest : List ℕ) → length rest < head_size fs → values_at fs counts rest ≡ None)
    → (number_at size all >>= λ n. then_values (value n.0) (values_at fs (give n.0) n.1)) ≡ None
number_first size fs all give value lt short =
    number_then_short size (head_size fs) all (λ n. then_values (value n.0) (values_at fs (give n.0) n.1)) lt (λ n rest less. ap (then_values (value n)) (short (give n) rest less))

-- fewer bytes than the head size do not hold all values
pub values_short : (fs : List RecordField) (counts : RecordCounts) (all : List ℕ) → length all < head_size fs → values_at fs counts all ≡ None
values_short [] counts all lt = absurd (omega arith)
values_short (Number (Unsigned size) ∷ fs) counts all lt = number_first size fs all (λ n. counts) (λ n. number (natural n)) lt (values_short fs)
values_short (Number (Signed w) ∷ fs) counts all lt =
    signed_then_short w (head_size fs) all (λ n. then_values (number (integer n.0)) (values_at fs counts n.1)) lt (λ z rest less. ap (then_values (number (integer z))) (values_short fs counts rest less))
values_short (Count size of ∷ fs) counts all lt = number_first size fs all (λ n. counted of n counts) (λ n. number (natural n)) lt (values_short fs)
values_short (Rows of sizes ∷ fs) counts all lt = absurd (omega arith)
values_short (Bytes of ∷ fs) counts all lt = absurd (omega arith)
values_short (ScaleBytes ∷ fs) counts all lt = number_first 4 fs all (λ n. counts) (λ n. number (natural n)) lt (values_short fs)
values_short (DecimalPlaces ∷ fs) counts all lt = number_first 1 fs all (λ n. counts) (λ n. number (natural n)) lt (values_short fs)

pub fields_short : (fs : List RecordField) (all : List ℕ) → length all < head_size fs → fields_at fs all ≡ Err stops.Truncated
fields_short fs all lt = ap (fitting fs) (values_short fs no_counts all lt)
