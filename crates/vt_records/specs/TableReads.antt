-- Reading a table of fields from the front of bytes: returns its values and the remaining bytes, or `None` if the
-- bytes are too few.
use Rattle.std.specs.Prelude.{◌≡◌, ◌⊎◌, ℕ, ℤ, zero, suc, List, [], ◌∷◌, ◌+◌, length, take, drop, nat_lt, if◌then◌else◌, Option, Some, None, Result, Ok, Err}
use Rattle.std.specs.Int.{Width, cast_signed}
use Rattle.byteorder.specs.Endian.{little_number}
use Rattle.vt_kinds.specs.Layout.{Size, Unsigned, Signed, Numeral, natural, integer, bytes_in, RecordField, Number, Count, Rows, Bytes, ScaleBytes, DecimalPlaces, Value, number, rows, bytes, RecordCounts, counted, count_of}
use Rattle.vt_records.specs.declared.record_fault.RecordFault.{RecordFault}
use Rattle.vt_records.specs.declared.record_fault.RecordFault.TheVariants as stops

infixl 10 ◌>>=◌
abbrev pub ◌>>=◌ : {A B : Type 0} → Option A → (A → Option B) → Option B
(Some x) >>= f = f x
None >>= f = None

-- A function's result, under `view`, equals the read result; it stops only if memory runs out or the bytes are too
-- few.
abbrev pub Gives : {X Y : Type 0} → (X → Y) → Result X RecordFault → Option Y → Type 0
Gives view (Ok x) read = read ≡ Some (view x)
Gives view (Err stop) read = (stop ≡ stops.OutOfMemory) ⊎ ((stop ≡ stops.Truncated) × (read ≡ None))

-- A function's result, under `view`, equals the read result; it stops only if the bytes are too few.
abbrev pub Finds : {X Y : Type 0} → (X → Y) → Result X RecordFault → Option Y → Type 0
Finds view (Ok x) read = read ≡ Some (view x)
Finds view (Err stop) read = (stop ≡ stops.Truncated) × (read ≡ None)

unfoldable pub bytes_at : ℕ → List ℕ → Option (List ℕ × List ℕ)
bytes_at count all = if nat_lt (length all) count then None else Some (take count all, drop count all)

unfoldable pub number_at : ℕ → List ℕ → Option (ℕ × List ℕ)
number_at size all = do
  front ← bytes_at size all
  Some (little_number size front.0, front.1)

unfoldable pub signed_at : Width → List ℕ → Option (ℤ × List ℕ)
signed_at width all = do
  n ← number_at (bytes_in width) all
  Some (cast_signed width n.0, n.1)

unfoldable pub row_at : List Size → List ℕ → Option (List Numeral × List ℕ)
row_at [] all = Some ([], all)
row_at (Unsigned size ∷ sizes) all = do
  n ← number_at size all
  ns ← row_at sizes n.1
  Some (natural n.0 ∷ ns.0, ns.1)
row_at (Signed width ∷ sizes) all = do
  n ← signed_at width all
  ns ← row_at sizes n.1
  Some (integer n.0 ∷ ns.0, ns.1)

unfoldable pub rows_at : List Size → ℕ → List ℕ → Option (List (List Numeral) × List ℕ)
rows_at sizes zero all = Some ([], all)
rows_at sizes (suc count) all = do
  first ← row_at sizes all
  others ← rows_at sizes count first.1
  Some (first.0 ∷ others.0, others.1)

abbrev pub values_at : List RecordField → RecordCounts → List ℕ → Option (List Value × List ℕ)
values_at [] counts all = Some ([], all)
values_at (Number (Unsigned size) ∷ fs) counts all = do
  n ← number_at size all
  vs ← values_at fs counts n.1
  Some (number (natural n.0) ∷ vs.0, vs.1)
values_at (Number (Signed width) ∷ fs) counts all = do
  n ← signed_at width all
  vs ← values_at fs counts n.1
  Some (number (integer n.0) ∷ vs.0, vs.1)
values_at (Count size of ∷ fs) counts all = do
  n ← number_at size all
  vs ← values_at fs (counted of n.0 counts) n.1
  Some (number (natural n.0) ∷ vs.0, vs.1)
values_at (Rows of sizes ∷ fs) counts all = do
  rs ← rows_at sizes (count_of of counts) all
  vs ← values_at fs counts rs.1
  Some (rows rs.0 ∷ vs.0, vs.1)
values_at (Bytes of ∷ fs) counts all = do
  bs ← bytes_at (count_of of counts) all
  vs ← values_at fs counts bs.1
  Some (bytes bs.0 ∷ vs.0, vs.1)
values_at (ScaleBytes ∷ fs) counts all = do
  n ← number_at 4 all
  vs ← values_at fs counts n.1
  Some (number (natural n.0) ∷ vs.0, vs.1)
values_at (DecimalPlaces ∷ fs) counts all = do
  n ← number_at 1 all
  vs ← values_at fs counts n.1
  Some (number (natural n.0) ∷ vs.0, vs.1)

-- the number of bytes of a row
abbrev pub row_size : List Size → ℕ
row_size [] = 0
row_size (Unsigned size ∷ sizes) = size + row_size sizes
row_size (Signed width ∷ sizes) = bytes_in width + row_size sizes

-- the number of bytes of the fields before the first list
abbrev pub head_size : List RecordField → ℕ
head_size [] = 0
head_size (Number (Unsigned size) ∷ fs) = size + head_size fs
head_size (Number (Signed width) ∷ fs) = bytes_in width + head_size fs
head_size (Count size of ∷ fs) = size + head_size fs
head_size (Rows of sizes ∷ fs) = 0
head_size (Bytes of ∷ fs) = 0
head_size (ScaleBytes ∷ fs) = 4 + head_size fs
head_size (DecimalPlaces ∷ fs) = 1 + head_size fs
