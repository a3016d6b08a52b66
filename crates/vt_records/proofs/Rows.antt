-- Reading rows in a loop gives the same result as `rows_at`.
use Rattle.std.proofs.Common.{◌≡◌, ◌⊎◌, ℕ, suc, ◌-◌, ◌+◌, ◌≤◌, ◌<◌, List, [], ◌∷◌, ◌++◌, length, Option, Some, None, refl, sym, ap, ◌∙◌, append_assoc, inr, arith}
use Rattle.std.proofs.lemmas.List.{append-nil}
use Rattle.vt_kinds.specs.Layout.{Size, Unsigned, Signed, Numeral, natural, integer}
use Rattle.vt_records.specs.declared.record_fault.RecordFault.{RecordFault}
use Rattle.vt_records.specs.declared.record_fault.RecordFault.TheVariants as stops
use Rattle.vt_records.proofs.Numbers.{number_then_short, signed_then_short}
use Rattle.vt_records.specs.TableReads.{◌>>=◌, row_at, rows_at}
use Rattle.vt_records.specs.TableReads.{row_size}

-- the rows read so far, followed by the rows of a later read
abbrev pub with_front : List (List Numeral) → Option (List (List Numeral) × List ℕ) → Option (List (List Numeral) × List ℕ)
with_front front read = read >>= λ x. Some (front ++ x.0, x.1)

regroup : (front : List (List Numeral)) (row : List Numeral) (read : Option (List (List Numeral) × List ℕ))
    → with_front front (read >>= λ x. Some (row ∷ x.0, x.1)) ≡ with_front (front ++ row ∷ []) read
regroup front row (Some x) = ap (λ (rows : List (List Numeral)). Some (rows, x.1)) (simp append_assoc)
regroup front row None = refl

pub goes_on : (sizes : List Size) (front : List (List Numeral)) (count i : ℕ) (all : List ℕ) (row : List Numeral) (after : List ℕ) (total : Option (List (List Numeral) × List ℕ)) → i < count → row_at sizes all ≡ Some (row, after)
    → with_front front (rows_at sizes (count - i) all) ≡ total → with_front (front ++ row ∷ []) (rows_at sizes (count - (i + 1)) after) ≡ total
unfolding rows_at
goes_on sizes front count i all row after total lt h so_far =
    let k : count - i ≡ suc (count - (i + 1)) = omega arith in
    let one : with_front front (rows_at sizes (count - i) all) ≡ with_front (front ++ row ∷ []) (rows_at sizes (count - (i + 1)) after) = rw (k, h) (regroup front row (rows_at sizes (count - (i + 1)) after)) in
    sym one ∙ so_far

pub ends : (sizes : List Size) (stop : RecordFault) (front : List (List Numeral)) (count i : ℕ) (all : List ℕ) (total : Option (List (List Numeral) × List ℕ)) → i < count → (stop ≡ stops.Truncated) × (row_at sizes all ≡ None)
    → with_front front (rows_at sizes (count - i) all) ≡ total → (stop ≡ stops.OutOfMemory) ⊎ ((stop ≡ stops.Truncated) × (total ≡ None))
unfolding rows_at
ends sizes stop front count i all total lt h so_far =
    let k : count - i ≡ suc (count - (i + 1)) = omega arith in
    let one : with_front front (rows_at sizes (count - i) all) ≡ None = rw (k, h.1) refl in
    inr (h.0, sym so_far ∙ one)

pub is_done : (sizes : List Size) (front : List (List Numeral)) (count i : ℕ) (all : List ℕ) (total : Option (List (List Numeral) × List ℕ)) → count ≤ i → with_front front (rows_at sizes (count - i) all) ≡ total → total ≡ Some (front, all)
unfolding rows_at
is_done sizes front count i all total le so_far =
    let k : count - i ≡ 0 = omega arith in
    let one : with_front front (rows_at sizes (count - i) all) ≡ Some (front, all) = rw k (ap (λ (rows : List (List Numeral)). Some (rows, all)) (append-nil front)) in
    sym so_far ∙ one

pub row_short : (sizes : List Size) (all : List ℕ) → length all < row_size sizes → row_at sizes all ≡ None
unfolding row_at
row_short [] all lt = absurd (omega arith)
row_short (Unsigned size ∷ sizes) all lt =
    number_then_short size (row_size sizes) all (λ n. row_at sizes n.1 >>= λ ns. Some (natural n.0 ∷ ns.0, ns.1)) lt (λ n rest less. rw (row_short sizes rest less) refl)
row_short (Signed width ∷ sizes) all lt =
    signed_then_short width (row_size sizes) all (λ n. row_at sizes n.1 >>= λ ns. Some (integer n.0 ∷ ns.0, ns.1)) lt (λ z rest less. rw (row_short sizes rest less) refl)
