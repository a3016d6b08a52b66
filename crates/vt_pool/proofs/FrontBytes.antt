-- Splitting a number of bytes off the front succeeds if there are enough bytes, and fails otherwise.
use Rattle.std.proofs.Common.{◌≡◌, ℕ, zero, suc, ◌+◌, ◌*◌, ◌<◌, ◌≤◌, List, [], ◌∷◌, length, take, drop, Some, None, refl, sym, ap, ◌∙◌, arith, inl, inr}
use Rattle.std.proofs.lemmas.Bool.{cases_lt, le-ltb, lt-ltb}
use Rattle.std.proofs.lemmas.List.{length-drop, drop-drop}
use Rattle.std.specs.Int.{Width, cast_signed}
use Rattle.std.specs.Prelude.{ℤ}
use Rattle.byteorder.specs.Endian.{little_number}
use Rattle.vt_kinds.specs.Layout.{Size, Unsigned, Signed, Numeral, natural, integer, bytes_in}
use Rattle.vt_records.specs.TableReads.{bytes_at, number_at, signed_at, row_at, rows_at}
use Rattle.vt_records.specs.TableReads.{row_size}
use Rattle.vt_records.proofs.Numbers.{number_short}
use Rattle.vt_records.proofs.Rows.{row_short}

pub bytes_front : (count : ℕ) (all : List ℕ) → count ≤ length all → bytes_at count all ≡ Some (take count all, drop count all)
unfolding bytes_at
bytes_front count all le = rw (le-ltb (length all) count le) refl

pub bytes_short : (count : ℕ) (all : List ℕ) → length all < count → bytes_at count all ≡ None
unfolding bytes_at
bytes_short count all lt = rw (lt-ltb (length all) count lt) refl

pub number_front : (size : ℕ) (all : List ℕ) → size ≤ length all → number_at size all ≡ Some (little_number size (take size all), drop size all)
unfolding number_at
number_front size all le = rw (bytes_front size all le) refl

pub signed_front : (w : Width) (all : List ℕ) → bytes_in w ≤ length all → (z : ℤ) × (signed_at w all ≡ Some (z, drop (bytes_in w) all))
unfolding signed_at
signed_front w all le = (cast_signed w (little_number (bytes_in w) (take (bytes_in w) all)), rw (number_front (bytes_in w) all le) refl)

pub signed_short : (w : Width) (all : List ℕ) → length all < bytes_in w → signed_at w all ≡ None
unfolding signed_at
signed_short w all lt = rw (number_short (bytes_in w) all lt) refl

row_front : (sizes : List Size) (all : List ℕ) → row_size sizes ≤ length all → (ns : List Numeral) × (row_at sizes all ≡ Some (ns, drop (row_size sizes) all))
unfolding row_at
row_front [] all le = ([], refl)
row_front (Unsigned size ∷ sizes) all le =
    let others = row_front sizes (drop size all) (omega (arith, length-drop size all)) in
    (natural (little_number size (take size all)) ∷ others.0, rw (number_front size all (omega arith), others.1, drop-drop (row_size sizes) size all) refl)
row_front (Signed w ∷ sizes) all le =
    let first = signed_front w all (omega arith) in
    let others = row_front sizes (drop (bytes_in w) all) (omega (arith, length-drop (bytes_in w) all)) in
    (integer first.0 ∷ others.0, rw (first.1, others.1, drop-drop (row_size sizes) (bytes_in w) all) refl)

pub rows_front : (sizes : List Size) (count : ℕ) (all : List ℕ) → count * row_size sizes ≤ length all → (rs : List (List Numeral)) × (rows_at sizes count all ≡ Some (rs, drop (count * row_size sizes) all))
unfolding rows_at
rows_front sizes zero all le =
    let none : 0 * row_size sizes ≡ 0 = omega arith in
    ([], ap (λ (n : ℕ). Some ([], drop n all)) (sym none))
rows_front sizes (suc count) all le =
    let more : suc count * row_size sizes ≡ row_size sizes + count * row_size sizes = omega arith in
    let first = row_front sizes all (omega arith) in
    let others = rows_front sizes count (drop (row_size sizes) all) (omega (arith, length-drop (row_size sizes) all)) in
    let behind : drop (count * row_size sizes) (drop (row_size sizes) all) ≡ drop (suc count * row_size sizes) all =
    drop-drop (count * row_size sizes) (row_size sizes) all ∙ ap (λ (n : ℕ). drop n all) (sym more) in
    (first.0 ∷ others.0, rw (first.1, others.1) (ap (λ (l : List ℕ). Some (first.0 ∷ others.0, l)) behind))

pub rows_short : (sizes : List Size) (count : ℕ) (all : List ℕ) → length all < count * row_size sizes → rows_at sizes count all ≡ None
unfolding rows_at
rows_short sizes zero all lt = absurd (omega arith)
rows_short sizes (suc count) all lt =
    elim (cases_lt (length all) (row_size sizes)) [
      | inl short ↦ rw (row_short sizes all short) refl
      | inr long ↦ let first = row_front sizes all long in rw (first.1, rows_short sizes count (drop (row_size sizes) all) (omega (arith, length-drop (row_size sizes) all))) refl
    ]
