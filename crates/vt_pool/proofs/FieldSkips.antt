-- Skipping the fields of a record in a loop has the same result as reading them.
use Rattle.std.proofs.Common.{◌≡◌, ℕ, ◌+◌, ◌-◌, ◌*◌, ◌<◌, ◌≤◌, Bool, true, false, cond, ltb, List, ◌∷◌, length, get_or, map, take, drop, Option, Some, None, Result, Ok, Err, refl, sym, ap, subst, ◌∙◌, arith}
use Rattle.std.specs.Option.{option_or}
use Rattle.std.proofs.lemmas.List.{length-append, length-drop, length-take-le, length-map, get_or-map, drop_more, drop_all}
use Rattle.byteorder.specs.Endian.{little_number}
use Rattle.vt_kinds.specs.declared.scale.Scale.{Scale}
use Rattle.vt_kinds.specs.Scales.{scale_at}
use Rattle.vt_kinds.specs.Layout as layout
use Rattle.vt_kinds.specs.Layout.{Unsigned, Signed, natural, integer, bytes_in, RecordField, Number, Count, Rows, Bytes, ScaleBytes, DecimalPlaces, Value, number, rows, bytes, Objects, Macros, Others, counted, count_of, rows_spelling, no_counts}
use Rattle.vt_records.specs.declared.record_fault.RecordFault.{RecordFault}
use Rattle.vt_records.specs.declared.record_fault.RecordFault.TheVariants as stops
use Rattle.vt_records.specs.declared.fault.PoolFault.{PoolFault}
use Rattle.vt_records.specs.declared.fault.PoolFault.TheVariants as faults
use Rattle.vt_pool.specs.declared.field_layout.EntryCounts.{EntryCounts}
use Rattle.vt_pool.specs.declared.field_layout.FieldLayout.{FieldLayout}
use Rattle.vt_records.specs.RecordFaults.{fault_at}
use Rattle.vt_records.specs.Heads.{if_none, misfit, or_misfit, fitting}
use Rattle.vt_records.specs.TableReads.{◌>>=◌, values_at, rows_at}
use Rattle.vt_pool.specs.FieldLayouts.{counted_as, layout_of, count_in, with_count, field_size, counts_behind, fault_without, field_fault, PassesFields}
use Rattle.vt_records.specs.TableReads.{row_size}
use Rattle.vt_records.proofs.Numbers.{IsBytes, IsBytes-drop, number_short}
use Rattle.vt_records.proofs.Tables.{rows_take}
use Rattle.vt_pool.proofs.FrontBytes.{bytes_front, bytes_short, number_front, signed_front, signed_short, rows_front, rows_short}

-- ---- counts of lists

abbrev pub counts_so : EntryCounts → layout.RecordCounts
counts_so counts = record { objects = counts.objects; macros = counts.macros; others = counts.others }

same_count : (counts : EntryCounts) (of : layout.Counted) → count_of of (counts_so counts) ≡ count_in counts (counted_as of)
same_count counts Objects = refl
same_count counts Macros = refl
same_count counts Others = refl

same_counts : (counts : EntryCounts) (of : layout.Counted) (n : ℕ) → counted of n (counts_so counts) ≡ counts_so (with_count counts (counted_as of) n)
same_counts counts Objects n = refl
same_counts counts Macros n = refl
same_counts counts Others n = refl

-- ---- the final result

abbrev faulty : ℕ → Option RecordFault → Option PoolFault
faulty at None = None
faulty at (Some stop) = Some (fault_at stop at)

abbrev pub ended : List ℕ → Option PoolFault → Result (List ℕ) PoolFault
ended rest None = Ok rest
ended rest (Some fault) = Err fault

-- the result for fields at this offset from the record's first byte, given the first fault so far
abbrev pub given : ℕ → Option PoolFault → ℕ → List RecordField → Option (List Value × List ℕ) → Result (List ℕ) PoolFault
given at met offset fs None = Err (faults.Truncated at)
given at met offset fs (Some read) = ended read.1 (option_or met (faulty at (misfit offset fs read.0)))

passes_cases : (at : ℕ) (read : List Value × List ℕ) (m : Option RecordFault) → PassesFields (λ rest. rest) at (ended read.1 (faulty at m)) (or_misfit read m)
passes_cases at read None = refl
passes_cases at read (Some stop) = refl

pub given_passes : (at : ℕ) (fs : List RecordField) (read : Option (List Value × List ℕ)) → PassesFields (λ rest. rest) at (given at None 3 fs read) (fitting fs read)
given_passes at fs None = refl
given_passes at fs (Some read) = passes_cases at read (misfit 3 fs read.0)

-- ---- one field

or_none : (m : Option PoolFault) → option_or m None ≡ m
or_none None = refl
or_none (Some fault) = refl

given_next : (at : ℕ) (met met' : Option PoolFault) (offset offset' : ℕ) (f : RecordField) (fs : List RecordField) (v : Value) (read : Option (List Value × List ℕ))
    → ((vs : List Value) → option_or met (faulty at (misfit offset (f ∷ fs) (v ∷ vs))) ≡ option_or met' (faulty at (misfit offset' fs vs)))
    → given at met offset (f ∷ fs) (read >>= λ x. Some (v ∷ x.0, x.1)) ≡ given at met' offset' fs read
given_next at met met' offset offset' f fs v None same = refl
given_next at met met' offset offset' f fs v (Some read) same = ap (ended read.1) (same read.0)

scale_cases : (found : Option Scale) (met : Option PoolFault) (at offset : ℕ) (later : Option RecordFault)
    → option_or met (faulty at (if_none found (stops.Scale offset) later)) ≡ option_or (option_or met (fault_without found (faults.Scale (at + offset)))) (faulty at later)
scale_cases None None at offset later = refl
scale_cases None (Some fault) at offset later = refl
scale_cases (Some s) None at offset later = refl
scale_cases (Some s) (Some fault) at offset later = refl

decimals_cases : (many : Bool) (met : Option PoolFault) (at offset : ℕ) (later : Option RecordFault)
    → option_or met (faulty at (cond many (Some (stops.Decimals offset)) later)) ≡ option_or (option_or met (cond many (Some (faults.Decimals (at + offset))) None)) (faulty at later)
decimals_cases true None at offset later = refl
decimals_cases true (Some fault) at offset later = refl
decimals_cases false None at offset later = refl
decimals_cases false (Some fault) at offset later = refl

rows_length : (sizes : List layout.Size) (count : ℕ) (rest : List ℕ) (rs : List (List layout.Numeral)) → IsBytes rest → count * row_size sizes ≤ length rest → rows_at sizes count rest ≡ Some (rs, drop (count * row_size sizes) rest)
    → length (rows_spelling sizes rs) ≡ count * row_size sizes
rows_length sizes count rest rs fits le e =
    let took = rows_take sizes count rest (rs, drop (count * row_size sizes) rest) fits e in
    let len = ap length took.0.parts ∙ length-append (rows_spelling sizes rs) (drop (count * row_size sizes) rest) in
    omega (arith, len, length-drop (count * row_size sizes) rest)

pub field_given : (at : ℕ) (met : Option PoolFault) (offset : ℕ) (f : RecordField) (fs : List RecordField) (counts : EntryCounts) (rest : List ℕ) → IsBytes rest → field_size (layout_of f) counts ≤ length rest
    → given at met offset (f ∷ fs) (values_at (f ∷ fs) (counts_so counts) rest)
    ≡ given at (option_or met (field_fault (layout_of f) (take (field_size (layout_of f) counts) rest) (at + offset))) (offset + field_size (layout_of f) counts) fs
    (values_at fs (counts_so (counts_behind (layout_of f) (take (field_size (layout_of f) counts) rest) counts)) (drop (field_size (layout_of f) counts) rest))
field_given at met offset (Number (Unsigned size)) fs counts rest fits le =
    let n = little_number size (take size rest) in
    rw (number_front size rest le, or_none met)
    (given_next at met met offset (offset + size) (Number (Unsigned size)) fs (number (natural n)) (values_at fs (counts_so counts) (drop size rest)) (λ vs. refl))
field_given at met offset (Number (Signed w)) fs counts rest fits le =
    let z = signed_front w rest le in
    rw (z.1, or_none met)
    (given_next at met met offset (offset + bytes_in w) (Number (Signed w)) fs (number (integer z.0)) (values_at fs (counts_so counts) (drop (bytes_in w) rest)) (λ vs. refl))
field_given at met offset (Count size of) fs counts rest fits le =
    let n = little_number size (take size rest) in
    rw (number_front size rest le, or_none met, ← same_counts counts of n)
    (given_next at met met offset (offset + size) (Count size of) fs (number (natural n)) (values_at fs (counted of n (counts_so counts)) (drop size rest)) (λ vs. refl))
field_given at met offset (Rows of sizes) fs counts rest fits le =
    let count = count_in counts (counted_as of) in
    let rs = rows_front sizes count rest le in
    let len = rows_length sizes count rest rs.0 fits le rs.1 in
    rw (same_count counts of, rs.1, or_none met)
    (given_next at met met offset (offset + count * row_size sizes) (Rows of sizes) fs (rows rs.0) (values_at fs (counts_so counts) (drop (count * row_size sizes) rest))
    (λ vs. ap (λ (k : ℕ). option_or met (faulty at (misfit (offset + k) fs vs))) len))
field_given at met offset (Bytes of) fs counts rest fits le =
    let count = count_in counts (counted_as of) in
    let one : count * 1 ≡ count = omega arith in
    let within : count ≤ length rest = omega arith in
    let len : length (take count rest) ≡ count = length-take-le count rest within in
    rw (one, same_count counts of, bytes_front count rest within, or_none met)
    (given_next at met met offset (offset + count) (Bytes of) fs (bytes (take count rest)) (values_at fs (counts_so counts) (drop count rest))
    (λ vs. ap (λ (k : ℕ). option_or met (faulty at (misfit (offset + k) fs vs))) len))
field_given at met offset ScaleBytes fs counts rest fits le =
    let n = little_number 4 (take 4 rest) in
    rw (number_front 4 rest le)
    (given_next at met (option_or met (fault_without (scale_at n) (faults.Scale (at + offset)))) offset (offset + 4) ScaleBytes fs (number (natural n)) (values_at fs (counts_so counts) (drop 4 rest))
    (λ vs. scale_cases (scale_at n) met at offset (misfit (offset + 4) fs vs)))
field_given at met offset DecimalPlaces fs counts rest fits le =
    let n = little_number 1 (take 1 rest) in
    rw (number_front 1 rest le)
    (given_next at met (option_or met (cond (ltb 7 n) (Some (faults.Decimals (at + offset))) None)) offset (offset + 1) DecimalPlaces fs (number (natural n)) (values_at fs (counts_so counts) (drop 1 rest))
    (λ vs. decimals_cases (ltb 7 n) met at offset (misfit (offset + 1) fs vs)))

pub field_short : (f : RecordField) (fs : List RecordField) (counts : EntryCounts) (rest : List ℕ) → length rest < field_size (layout_of f) counts → values_at (f ∷ fs) (counts_so counts) rest ≡ None
field_short (Number (Unsigned size)) fs counts rest lt = rw (number_short size rest lt) refl
field_short (Number (Signed w)) fs counts rest lt = rw (signed_short w rest lt) refl
field_short (Count size of) fs counts rest lt = rw (number_short size rest lt) refl
field_short (Rows of sizes) fs counts rest lt = rw (same_count counts of, rows_short sizes (count_in counts (counted_as of)) rest lt) refl
field_short (Bytes of) fs counts rest lt =
    let few : length rest < count_in counts (counted_as of) = omega arith in
    rw (same_count counts of, bytes_short (count_in counts (counted_as of)) rest few) (refl {a = None})
field_short ScaleBytes fs counts rest lt = rw (number_short 4 rest lt) refl
field_short DecimalPlaces fs counts rest lt = rw (number_short 1 rest lt) refl

-- ---- one step of the loop

-- Invariant of the loop: the first fields are skipped, and the result for the others is the result for all.
pub record IsPassed (fs : List RecordField) (all : List ℕ) (at i : ℕ) (met : Option PoolFault) (counts : EntryCounts) (rest : List ℕ) : Type 0 where
  pub within : length rest + 3 ≤ length all
  pub rest_fits : IsBytes rest
  pub so_far : given at met (length all - length rest) (drop i fs) (values_at (drop i fs) (counts_so counts) rest) ≡ given at None 3 fs (values_at fs no_counts (drop 3 all))

pub begins : (fs : List RecordField) (all : List ℕ) (at : ℕ) → IsBytes all → 3 ≤ length all → IsPassed fs all at 0 None (record { objects = 0; macros = 0; others = 0 }) (drop 3 all)
begins fs all at fits head =
    let three : length all - length (drop 3 all) ≡ 3 = omega (arith, length-drop 3 all) in
    record {
      within = omega (arith, length-drop 3 all);
      rest_fits = IsBytes-drop 3 all fits;
      so_far = ap (λ (k : ℕ). given at None k fs (values_at fs no_counts (drop 3 all))) three;
    }

-- the field at an index
abbrev field_at : List RecordField → ℕ → RecordField
field_at fs i = get_or fs i DecimalPlaces

-- the result of reading all fields
abbrev passed : List RecordField → List ℕ → Result (List Value × List ℕ) RecordFault
passed fs all = fitting fs (values_at fs no_counts (drop 3 all))

given_is : (fs : List RecordField) (all : List ℕ) (at : ℕ) (r : Result (List ℕ) PoolFault) → given at None 3 fs (values_at fs no_counts (drop 3 all)) ≡ r → PassesFields (λ rest. rest) at r (passed fs all)
given_is fs all at r e = subst (λ (r : Result (List ℕ) PoolFault). PassesFields (λ rest. rest) at r (passed fs all)) e (given_passes at fs (values_at fs no_counts (drop 3 all)))

module _ (fs : List RecordField) (ps : List FieldLayout) (all : List ℕ) (at i : ℕ) (met : Option PoolFault) (counts : EntryCounts) (rest : List ℕ) (d : FieldLayout) where
  abbrev p : FieldLayout
  p = get_or ps i d

  abbrev size : ℕ
  size = field_size p counts

  there : ps ≡ map layout_of fs → i < length ps → (i < length fs) × (p ≡ layout_of (field_at fs i))
  there same lt =
      let lt' : i < length fs = omega (arith, ap length same, length-map fs layout_of) in
      (lt', ap (λ (l : List FieldLayout). get_or l i d) same ∙ get_or-map layout_of fs i DecimalPlaces d lt')

  step : IsBytes rest → p ≡ layout_of (field_at fs i) → size ≤ length rest
      → given at met (length all - length rest) (field_at fs i ∷ drop (i + 1) fs) (values_at (field_at fs i ∷ drop (i + 1) fs) (counts_so counts) rest)
      ≡ given at (option_or met (field_fault p (take size rest) (at + (length all - length rest)))) (length all - length rest + size) (drop (i + 1) fs)
      (values_at (drop (i + 1) fs) (counts_so (counts_behind p (take size rest) counts)) (drop size rest))
  step fits is le =
      subst (λ (q : FieldLayout). field_size q counts ≤ length rest
      → given at met (length all - length rest) (field_at fs i ∷ drop (i + 1) fs) (values_at (field_at fs i ∷ drop (i + 1) fs) (counts_so counts) rest)
      ≡ given at (option_or met (field_fault q (take (field_size q counts) rest) (at + (length all - length rest)))) (length all - length rest + field_size q counts) (drop (i + 1) fs)
      (values_at (drop (i + 1) fs) (counts_so (counts_behind q (take (field_size q counts) rest) counts)) (drop (field_size q counts) rest))) (sym is)
      (field_given at met (length all - length rest) (field_at fs i) (drop (i + 1) fs) counts rest fits) le

  goes_on : ps ≡ map layout_of fs → i < length ps → size ≤ length rest → IsPassed fs all at i met counts rest
      → IsPassed fs all at (i + 1) (option_or met (field_fault p (take size rest) (at + (length all - length rest)))) (counts_behind p (take size rest) counts) (drop size rest)
  goes_on same lt le so_far =
      let t = there same lt in
      let here = drop_more fs i DecimalPlaces t.0 in
      let within = so_far.within in
      let next : length all - length (drop size rest) ≡ length all - length rest + size = omega (arith, length-drop size rest) in
      record {
        within = omega (arith, length-drop size rest);
        rest_fits = IsBytes-drop size rest so_far.rest_fits;
        so_far =
            ap (λ (k : ℕ). given at (option_or met (field_fault p (take size rest) (at + (length all - length rest)))) k (drop (i + 1) fs)
            (values_at (drop (i + 1) fs) (counts_so (counts_behind p (take size rest) counts)) (drop size rest))) next
            ∙ sym (step so_far.rest_fits t.1 le) ∙ ap (λ (l : List RecordField). given at met (length all - length rest) l (values_at l (counts_so counts) rest)) (sym here) ∙ so_far.so_far;
      }

  pub next_field : (front behind : List ℕ) (found met' : Option PoolFault) (counts' : EntryCounts) → ps ≡ map layout_of fs → i < length ps → IsPassed fs all at i met counts rest
      → size ≤ length rest → front ≡ take size rest → behind ≡ drop size rest → found ≡ field_fault p front (at + (length all - length rest)) → met' ≡ option_or met found → counts' ≡ counts_behind p front counts
      → IsPassed fs all at (i + 1) met' counts' behind
  next_field front behind found met' counts' same lt so_far le front_is behind_is found_is met_is counts_is =
      let next = goes_on same lt le so_far in
      let found' : found ≡ field_fault p (take size rest) (at + (length all - length rest)) = found_is ∙ ap (λ (l : List ℕ). field_fault p l (at + (length all - length rest))) front_is in
      let met'' = met_is ∙ ap (option_or met) found' in
      let counts'' = counts_is ∙ ap (λ (l : List ℕ). counts_behind p l counts) front_is in
      subst (λ (m : Option PoolFault). IsPassed fs all at (i + 1) m counts' behind) (sym met'')
      (subst (λ (k : EntryCounts). IsPassed fs all at (i + 1) (option_or met (field_fault p (take size rest) (at + (length all - length rest)))) k behind) (sym counts'')
      (subst (λ (l : List ℕ). IsPassed fs all at (i + 1) (option_or met (field_fault p (take size rest) (at + (length all - length rest)))) (counts_behind p (take size rest) counts) l) (sym behind_is) next))

  stops_short : ps ≡ map layout_of fs → i < length ps → IsPassed fs all at i met counts rest → length rest < size → PassesFields (λ r. r) at (Err (faults.Truncated at)) (passed fs all)
  stops_short same lt so_far short =
      let t = there same lt in
      let here = drop_more fs i DecimalPlaces t.0 in
      let few : length rest < field_size (layout_of (field_at fs i)) counts = subst (λ (q : FieldLayout). length rest < field_size q counts) t.1 short in
      let none : values_at (drop i fs) (counts_so counts) rest ≡ None = ap (λ (l : List RecordField). values_at l (counts_so counts) rest) here ∙ field_short (field_at fs i) (drop (i + 1) fs) counts rest few in
      given_is fs all at (Err (faults.Truncated at)) (sym so_far.so_far ∙ ap (given at met (length all - length rest) (drop i fs)) none)

ends : (fs : List RecordField) (all : List ℕ) (at i : ℕ) (met : Option PoolFault) (counts : EntryCounts) (rest : List ℕ) → length fs ≤ i → IsPassed fs all at i met counts rest
    → PassesFields (λ r. r) at (ended rest met) (passed fs all)
ends fs all at i met counts rest le so_far =
    let none = drop_all i fs le in
    given_is fs all at (ended rest met)
    (sym so_far.so_far ∙ ap (λ (l : List RecordField). given at met (length all - length rest) l (values_at l (counts_so counts) rest)) none ∙ ap (ended rest) (or_none met))

-- ---- the returned result

err_seen : {X : Type 0} (view : X → List ℕ) (at : ℕ) (fault : PoolFault) (read : Result (List Value × List ℕ) RecordFault) → PassesFields (λ r. r) at (Err fault) read → PassesFields view at (Err fault) read
err_seen view at fault (Ok x) is = is
err_seen view at fault (Err stop) is = is

ok_seen : {X : Type 0} (view : X → List ℕ) (at : ℕ) (x : X) (read : Result (List Value × List ℕ) RecordFault) → PassesFields (λ r. r) at (Ok (view x)) read → PassesFields view at (Ok x) read
ok_seen view at x (Ok y) is = is
ok_seen view at x (Err stop) is = is

pub returns_short : {X : Type 0} (view : X → List ℕ) (fs : List RecordField) (ps : List FieldLayout) (all : List ℕ) (at i : ℕ) (met : Option PoolFault) (counts : EntryCounts) (rest : List ℕ) (d : FieldLayout)
    → ps ≡ map layout_of fs → i < length ps → IsPassed fs all at i met counts rest → length rest < field_size (get_or ps i d) counts → PassesFields view at (Err (faults.Truncated at)) (passed fs all)
returns_short view fs ps all at i met counts rest d same lt so_far short = err_seen view at (faults.Truncated at) (passed fs all) (stops_short fs ps all at i met counts rest d same lt so_far short)

past_end : (fs : List RecordField) (ps : List FieldLayout) (i : ℕ) → ps ≡ map layout_of fs → length ps ≤ i → length fs ≤ i
past_end fs ps i same le = omega (arith, ap length same, length-map fs layout_of)

pub returns_fault : {X : Type 0} (view : X → List ℕ) (fs : List RecordField) (ps : List FieldLayout) (all : List ℕ) (at i : ℕ) (met : Option PoolFault) (counts : EntryCounts) (rest : List ℕ) (fault : PoolFault)
    → ps ≡ map layout_of fs → length ps ≤ i → IsPassed fs all at i met counts rest → met ≡ Some fault → PassesFields view at (Err fault) (passed fs all)
returns_fault view fs ps all at i met counts rest fault same le so_far is =
    err_seen view at fault (passed fs all) (subst (λ (m : Option PoolFault). PassesFields (λ r. r) at (ended rest m) (passed fs all)) is (ends fs all at i met counts rest (past_end fs ps i same le) so_far))

pub returns_rest : {X : Type 0} (view : X → List ℕ) (fs : List RecordField) (ps : List FieldLayout) (all : List ℕ) (at i : ℕ) (met : Option PoolFault) (counts : EntryCounts) (x : X)
    → ps ≡ map layout_of fs → length ps ≤ i → IsPassed fs all at i met counts (view x) → met ≡ None → PassesFields view at (Ok x) (passed fs all)
returns_rest view fs ps all at i met counts x same le so_far is =
    ok_seen view at x (passed fs all) (subst (λ (m : Option PoolFault). PassesFields (λ r. r) at (ended (view x) m) (passed fs all)) is (ends fs all at i met counts (view x) (past_end fs ps i same le) so_far))
