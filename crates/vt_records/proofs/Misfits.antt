-- `misfit` finds the first value that its field does not allow.
use Rattle.std.proofs.Common.{◌≡◌, ℕ, ◌+◌, ◌≤◌, Bool, true, false, cond, eqb, ltb, List, [], ◌∷◌, length, Option, Some, None, Ok, Err, refl, sym, ap, subst, ◌∙◌, arith, inl, inr}
use Rattle.std.proofs.lemmas.Bool.{eqb-true, ltb-true, ltb-false, le-ltb}
use Rattle.std.specs.Int.{cast_unsigned}
use Rattle.byteorder.specs.Numbers.{length-bytes_low_first}
use Rattle.vt_kinds.specs.declared.scale.Scale.{Scale}
use Rattle.vt_kinds.specs.declared.scale.Scale.TheVariants as scale
use Rattle.vt_kinds.specs.Scales.{scale_number, scale_at, scale_among, scales, IsScale}
use Rattle.vt_kinds.specs.Layout.{Unsigned, Signed, natural, integer, bytes_in, RecordField, Number, Count, Rows, Bytes, ScaleBytes, DecimalPlaces, Value, number, rows, bytes, RecordCounts, counted, rows_spelling, field_spelling, IsProper, Proper, FieldsFit}
use Rattle.vt_records.specs.declared.record_fault.RecordFault.{RecordFault}
use Rattle.vt_records.specs.declared.record_fault.RecordFault.TheVariants as stops
use Rattle.vt_records.specs.Heads.{if_none, misfit, or_misfit, fitting}
use Rattle.vt_records.specs.Faults.{IsFirstImproper}

-- ---- scales

among_cases : (b : Bool) (s0 : Scale) (others : Option Scale) (n : ℕ) (s : Scale) → cond b (Some s0) others ≡ Some s → (b ≡ true → n ≡ scale_number s0) → (others ≡ Some s → n ≡ scale_number s) → n ≡ scale_number s
among_cases true s0 others n s e here later = here refl ∙ ap scale_number (let same : s0 ≡ s = cc in same)
among_cases false s0 others n s e here later = later e

scale_among_is : (ss : List Scale) (n : ℕ) (s : Scale) → scale_among ss n ≡ Some s → n ≡ scale_number s
scale_among_is [] n s e = absurd cc
scale_among_is (s0 ∷ ss) n s e = among_cases (eqb n (scale_number s0)) s0 (scale_among ss n) n s e (eqb-true n (scale_number s0)) (scale_among_is ss n s)

is_scale : (n : ℕ) (s : Scale) → scale_at n ≡ Some s → IsScale n
is_scale n s e = (s, scale_among_is scales n s e)

scale_again : (s : Scale) → scale_at (scale_number s) ≡ Some s
scale_again scale.One = refl
scale_again scale.Tenth = refl
scale_again scale.Hundredth = refl
scale_again scale.Thousandth = refl

no_scale : (n : ℕ) → scale_at n ≡ None → IsScale n → ⊥
no_scale n e is = let both = sym e ∙ ap scale_at is.1 ∙ scale_again is.0 in absurd cc

-- ---- no misfit means that all values are allowed

none_cases : (found : Option Scale) (at n : ℕ) (next : Option RecordFault) → scale_at n ≡ found → if_none found (stops.Scale at) next ≡ None → IsScale n × (next ≡ None)
none_cases None at n next is e = absurd cc
none_cases (Some s) at n next is e = (is_scale n s is, e)

few_cases : (many : Bool) (at n : ℕ) (next : Option RecordFault) → ltb 7 n ≡ many → cond many (Some (stops.Decimals at)) next ≡ None → (n ≤ 7) × (next ≡ None)
few_cases true at n next is e = absurd cc
few_cases false at n next is e = (ltb-false 7 n is, e)

pub proper : (at : ℕ) (fs : List RecordField) (vs : List Value) → misfit at fs vs ≡ None → Proper fs vs
proper at [] vs e = tt
proper at (Number size ∷ fs) [] e = tt
proper at (Count size of ∷ fs) [] e = tt
proper at (Rows of sizes ∷ fs) [] e = tt
proper at (Bytes of ∷ fs) [] e = tt
proper at (ScaleBytes ∷ fs) [] e = tt
proper at (DecimalPlaces ∷ fs) [] e = tt
proper at (Number size ∷ fs) (v ∷ vs) e = (tt, proper _ fs vs e)
proper at (Count size of ∷ fs) (v ∷ vs) e = (tt, proper _ fs vs e)
proper at (Rows of sizes ∷ fs) (v ∷ vs) e = (tt, proper _ fs vs e)
proper at (Bytes of ∷ fs) (v ∷ vs) e = (tt, proper _ fs vs e)
proper at (ScaleBytes ∷ fs) (number (natural n) ∷ vs) e = let c = none_cases (scale_at n) at n (misfit (at + 4) fs vs) refl e in (c.0, proper (at + 4) fs vs c.1)
proper at (ScaleBytes ∷ fs) (number (integer z) ∷ vs) e = (tt, proper _ fs vs e)
proper at (ScaleBytes ∷ fs) (rows rs ∷ vs) e = (tt, proper _ fs vs e)
proper at (ScaleBytes ∷ fs) (bytes bs ∷ vs) e = (tt, proper _ fs vs e)
proper at (DecimalPlaces ∷ fs) (number (natural n) ∷ vs) e = let c = few_cases (ltb 7 n) at n (misfit (at + 1) fs vs) refl e in (c.0, proper (at + 1) fs vs c.1)
proper at (DecimalPlaces ∷ fs) (number (integer z) ∷ vs) e = (tt, proper _ fs vs e)
proper at (DecimalPlaces ∷ fs) (rows rs ∷ vs) e = (tt, proper _ fs vs e)
proper at (DecimalPlaces ∷ fs) (bytes bs ∷ vs) e = (tt, proper _ fs vs e)

pub no_misfit : (at : ℕ) (fs : List RecordField) (vs : List Value) → Proper fs vs → misfit at fs vs ≡ None
no_misfit at [] vs is = refl
no_misfit at (Number size ∷ fs) [] is = refl
no_misfit at (Count size of ∷ fs) [] is = refl
no_misfit at (Rows of sizes ∷ fs) [] is = refl
no_misfit at (Bytes of ∷ fs) [] is = refl
no_misfit at (ScaleBytes ∷ fs) [] is = refl
no_misfit at (DecimalPlaces ∷ fs) [] is = refl
no_misfit at (Number size ∷ fs) (v ∷ vs) is = no_misfit _ fs vs is.1
no_misfit at (Count size of ∷ fs) (v ∷ vs) is = no_misfit _ fs vs is.1
no_misfit at (Rows of sizes ∷ fs) (v ∷ vs) is = no_misfit _ fs vs is.1
no_misfit at (Bytes of ∷ fs) (v ∷ vs) is = no_misfit _ fs vs is.1
no_misfit at (ScaleBytes ∷ fs) (number (natural n) ∷ vs) is =
    ap (λ (f : Option Scale). if_none f (stops.Scale at) (misfit (at + 4) fs vs)) (ap scale_at is.0.1 ∙ scale_again is.0.0) ∙ no_misfit (at + 4) fs vs is.1
no_misfit at (ScaleBytes ∷ fs) (number (integer z) ∷ vs) is = no_misfit _ fs vs is.1
no_misfit at (ScaleBytes ∷ fs) (rows rs ∷ vs) is = no_misfit _ fs vs is.1
no_misfit at (ScaleBytes ∷ fs) (bytes bs ∷ vs) is = no_misfit _ fs vs is.1
no_misfit at (DecimalPlaces ∷ fs) (number (natural n) ∷ vs) is =
    ap (λ b. cond b (Some (stops.Decimals at)) (misfit (at + 1) fs vs)) (le-ltb 7 n is.0) ∙ no_misfit (at + 1) fs vs is.1
no_misfit at (DecimalPlaces ∷ fs) (number (integer z) ∷ vs) is = no_misfit _ fs vs is.1
no_misfit at (DecimalPlaces ∷ fs) (rows rs ∷ vs) is = no_misfit _ fs vs is.1
no_misfit at (DecimalPlaces ∷ fs) (bytes bs ∷ vs) is = no_misfit _ fs vs is.1

-- ---- the first misfit

-- a stop names the first value that its field does not allow; offsets count from `at`
abbrev pub IsMisfit : ℕ → List RecordField → List Value → RecordFault → Type 0
IsMisfit at fs vs (stops.Scale place) = (later : ℕ) × (place ≡ at + later) × IsFirstImproper ScaleBytes later fs vs
IsMisfit at fs vs (stops.Decimals place) = (later : ℕ) × (place ≡ at + later) × IsFirstImproper DecimalPlaces later fs vs
IsMisfit at fs vs _ = ⊥

later_is : (at size : ℕ) (f : RecordField) (v : Value) (fs : List RecordField) (vs : List Value) (stop : RecordFault) → size ≡ length (field_spelling f v) → IsProper f v → IsMisfit (at + size) fs vs stop → IsMisfit at (f ∷ fs) (v ∷ vs) stop
later_is at size f v fs vs (stops.Scale place) same is next = (size + next.0, omega (arith, next.1), inr (is, (next.0, omega (arith, same), next.2)))
later_is at size f v fs vs (stops.Decimals place) same is next = (size + next.0, omega (arith, next.1), inr (is, (next.0, omega (arith, same), next.2)))
later_is at size f v fs vs stops.Truncated same is next = absurd next
later_is at size f v fs vs stops.UnknownType same is next = absurd next
later_is at size f v fs vs stops.LeftOutType same is next = absurd next
later_is at size f v fs vs stops.OutOfMemory same is next = absurd next
later_is at size f v fs vs stops.NullId same is next = absurd next

some_stop : (s t : RecordFault) → ◌≡◌ {A = Option RecordFault} (Some s) (Some t) → s ≡ t
some_stop s t e = cc

scale_stop : (found : Option Scale) (at n : ℕ) (fs : List RecordField) (vs : List Value) (stop : RecordFault) → scale_at n ≡ found → if_none found (stops.Scale at) (misfit (at + 4) fs vs) ≡ Some stop
    → (misfit (at + 4) fs vs ≡ Some stop → IsMisfit (at + 4) fs vs stop) → IsMisfit at (ScaleBytes ∷ fs) (number (natural n) ∷ vs) stop
scale_stop None at n fs vs stop is e later =
    subst (IsMisfit at (ScaleBytes ∷ fs) (number (natural n) ∷ vs)) (some_stop (stops.Scale at) stop e) (0, omega arith, inl (refl, refl, no_scale n is))
scale_stop (Some s) at n fs vs stop is e later =
    later_is at 4 ScaleBytes (number (natural n)) fs vs stop (let len = length-bytes_low_first 0 4 n in omega (arith, len)) (is_scale n s is) (later e)

many_stop : (many : Bool) (at n : ℕ) (fs : List RecordField) (vs : List Value) (stop : RecordFault) → ltb 7 n ≡ many → cond many (Some (stops.Decimals at)) (misfit (at + 1) fs vs) ≡ Some stop
    → (misfit (at + 1) fs vs ≡ Some stop → IsMisfit (at + 1) fs vs stop) → IsMisfit at (DecimalPlaces ∷ fs) (number (natural n) ∷ vs) stop
many_stop true at n fs vs stop is e later =
    subst (IsMisfit at (DecimalPlaces ∷ fs) (number (natural n) ∷ vs)) (some_stop (stops.Decimals at) stop e)
    (0, omega arith, inl (refl, refl, λ le. let more = ltb-true 7 n is in absurd (omega (arith, le))))
many_stop false at n fs vs stop is e later =
    later_is at 1 DecimalPlaces (number (natural n)) fs vs stop (let len = length-bytes_low_first 0 1 n in omega (arith, len)) (ltb-false 7 n is) (later e)

pub misfit_is : (at : ℕ) (fs : List RecordField) (counts : RecordCounts) (vs : List Value) (stop : RecordFault) → FieldsFit fs counts vs → misfit at fs vs ≡ Some stop → IsMisfit at fs vs stop
misfit_is at [] counts [] stop fit e = absurd cc
misfit_is at (Number (Unsigned size) ∷ fs) counts (number (natural n) ∷ vs) stop fit e =
    later_is at size (Number (Unsigned size)) (number (natural n)) fs vs stop (sym (length-bytes_low_first 0 size n)) tt (misfit_is (at + size) fs counts vs stop fit.1 e)
misfit_is at (Number (Signed w) ∷ fs) counts (number (integer z) ∷ vs) stop fit e =
    later_is at (bytes_in w) (Number (Signed w)) (number (integer z)) fs vs stop (sym (length-bytes_low_first 0 (bytes_in w) (cast_unsigned w z))) tt (misfit_is (at + bytes_in w) fs counts vs stop fit.1 e)
misfit_is at (Number (Unsigned size) ∷ fs) counts (number (integer z) ∷ vs) stop fit e = absurd fit.0
misfit_is at (Number (Signed w) ∷ fs) counts (number (natural n) ∷ vs) stop fit e = absurd fit.0
misfit_is at (Count size of ∷ fs) counts (number (natural n) ∷ vs) stop fit e =
    later_is at size (Count size of) (number (natural n)) fs vs stop (sym (length-bytes_low_first 0 size n)) tt (misfit_is (at + size) fs (counted of n counts) vs stop fit.1 e)
misfit_is at (Rows of sizes ∷ fs) counts (rows rs ∷ vs) stop fit e =
    later_is at (length (rows_spelling sizes rs)) (Rows of sizes) (rows rs) fs vs stop refl tt (misfit_is (at + length (rows_spelling sizes rs)) fs counts vs stop fit.2 e)
misfit_is at (Bytes of ∷ fs) counts (bytes bs ∷ vs) stop fit e =
    later_is at (length bs) (Bytes of) (bytes bs) fs vs stop refl tt (misfit_is (at + length bs) fs counts vs stop fit.2 e)
misfit_is at (ScaleBytes ∷ fs) counts (number (natural n) ∷ vs) stop fit e =
    scale_stop (scale_at n) at n fs vs stop refl e (misfit_is (at + 4) fs counts vs stop fit.1)
misfit_is at (DecimalPlaces ∷ fs) counts (number (natural n) ∷ vs) stop fit e =
    many_stop (ltb 7 n) at n fs vs stop refl e (misfit_is (at + 1) fs counts vs stop fit.1)
misfit_is at fs counts vs stop fit e = absurd fit

-- ---- the values of a table and their first misfit

or_misfit_ok : (x : List Value × List ℕ) (m : Option RecordFault) (y : List Value × List ℕ) → or_misfit x m ≡ Ok y → (m ≡ None) × (x ≡ y)
or_misfit_ok x None y e = (refl, cc)
or_misfit_ok x (Some stop) y e = absurd cc

or_misfit_err : (x : List Value × List ℕ) (m : Option RecordFault) (stop : RecordFault) → or_misfit x m ≡ Err stop → m ≡ Some stop
or_misfit_err x None stop e = absurd cc
or_misfit_err x (Some s) stop e = let same : s ≡ stop = cc in ap (λ (t : RecordFault). Some t) same

pub fitting_ok : (fs : List RecordField) (r : Option (List Value × List ℕ)) (y : List Value × List ℕ) → fitting fs r ≡ Ok y → (r ≡ Some y) × (misfit 3 fs y.0 ≡ None)
fitting_ok fs None y e = absurd cc
fitting_ok fs (Some x) y e =
    let m = or_misfit_ok x (misfit 3 fs x.0) y e in
    (ap (λ (z : List Value × List ℕ). Some z) m.1, subst (λ (z : List Value × List ℕ). misfit 3 fs z.0 ≡ None) m.1 m.0)

pub fitting_err : (fs : List RecordField) (x : List Value × List ℕ) (stop : RecordFault) → fitting fs (Some x) ≡ Err stop → misfit 3 fs x.0 ≡ Some stop
fitting_err fs x stop e = or_misfit_err x (misfit 3 fs x.0) stop e
