-- Values that fit their fields have an encoding: a count is the length of the list that it counts.
use Rattle.std.proofs.Common.{◌≡◌, ◌<◌, refl, ℕ, List, [], ◌∷◌, length, map, subst}
use lib.ListN.{length-map}
use Rattle.vt_kinds.specs.declared.object.Object.TheVariants as objects
use Rattle.vt_kinds.specs.Ids.{null_id}
use Rattle.vt_kinds.specs.Layout.{RecordField, Count, Number, Rows, Bytes, ScaleBytes, DecimalPlaces, natural, integer, Value, number, rows, bytes, RecordCounts, no_counts, counted, count_of, FieldsFit, Proper}
use Rattle.vt_kinds.specs.Records.{Seen, kind_of, fields_of, values_of, HasRecord}
use Rattle.std.specs.List.{AllByRecursion}
use Rattle.vt_writing.specs.Values.{FitsField, Fitting, AreValuesOf, value_of, field_of}
use Rattle.vt_writing.specs.declared.value.Value as listed

-- as many values as fields, and each fits
abbrev pub EachFits : List RecordField → List Value → Type 0
EachFits [] [] = Unit {0}
EachFits (f ∷ fs) (v ∷ vs) = FitsField f v × EachFits fs vs
EachFits _ _ = ⊥

-- the lengths of the lists
abbrev lengths : List Value → List ℕ
lengths [] = []
lengths (number n ∷ vs) = lengths vs
lengths (rows rs ∷ vs) = length rs ∷ lengths vs
lengths (bytes bs ∷ vs) = length bs ∷ lengths vs

-- the lengths of the lists by their counts
abbrev counted_lengths : List RecordField → RecordCounts → List Value → List ℕ
counted_lengths (Count size of ∷ fs) counts (number (natural n) ∷ vs) = counted_lengths fs (counted of n counts) vs
counted_lengths (Rows of sizes ∷ fs) counts (v ∷ vs) = count_of of counts ∷ counted_lengths fs counts vs
counted_lengths (Bytes of ∷ fs) counts (v ∷ vs) = count_of of counts ∷ counted_lengths fs counts vs
counted_lengths (f ∷ fs) counts (v ∷ vs) = counted_lengths fs counts vs
counted_lengths _ _ _ = []

counts_agree : (o : Seen) → lengths (values_of o) ≡ counted_lengths (fields_of (kind_of o)) no_counts (values_of o)
counts_agree (objects.NumberVariable o) = refl
counts_agree (objects.StringVariable o) = refl
counts_agree (objects.ObjectPointer o) = refl
counts_agree (objects.Macro o) = refl
counts_agree _ = simp length-map

fitting : (fs : List RecordField) (counts : RecordCounts) (vs : List Value) → lengths vs ≡ counted_lengths fs counts vs → EachFits fs vs → FieldsFit fs counts vs
fitting [] counts [] same fit = tt
fitting [] counts (v ∷ vs) same fit = absurd fit
fitting (f ∷ fs) counts [] same fit = absurd fit
fitting (Number size ∷ fs) counts (number n ∷ vs) same fit = (fit.0, fitting fs counts vs same fit.1)
fitting (Number size ∷ fs) counts (rows rs ∷ vs) same fit = absurd fit.0
fitting (Number size ∷ fs) counts (bytes bs ∷ vs) same fit = absurd fit.0
fitting (Count size of ∷ fs) counts (number (natural n) ∷ vs) same fit = (fit.0, fitting fs (counted of n counts) vs same fit.1)
fitting (Count size of ∷ fs) counts (number (integer z) ∷ vs) same fit = absurd fit.0
fitting (Count size of ∷ fs) counts (rows rs ∷ vs) same fit = absurd fit.0
fitting (Count size of ∷ fs) counts (bytes bs ∷ vs) same fit = absurd fit.0
fitting (Rows of sizes ∷ fs) counts (rows rs ∷ vs) same fit = ((cc), fit.0, fitting fs counts vs (cc) fit.1)
fitting (Rows of sizes ∷ fs) counts (number n ∷ vs) same fit = absurd fit.0
fitting (Rows of sizes ∷ fs) counts (bytes bs ∷ vs) same fit = absurd fit.0
fitting (Bytes of ∷ fs) counts (bytes bs ∷ vs) same fit = ((cc), fit.0, fitting fs counts vs (cc) fit.1)
fitting (Bytes of ∷ fs) counts (number n ∷ vs) same fit = absurd fit.0
fitting (Bytes of ∷ fs) counts (rows rs ∷ vs) same fit = absurd fit.0
fitting (ScaleBytes ∷ fs) counts (number (natural n) ∷ vs) same fit = (fit.0.0, fitting fs counts vs same fit.1)
fitting (ScaleBytes ∷ fs) counts (number (integer z) ∷ vs) same fit = absurd fit.0
fitting (ScaleBytes ∷ fs) counts (rows rs ∷ vs) same fit = absurd fit.0
fitting (ScaleBytes ∷ fs) counts (bytes bs ∷ vs) same fit = absurd fit.0
fitting (DecimalPlaces ∷ fs) counts (number (natural n) ∷ vs) same fit = (fit.0.0, fitting fs counts vs same fit.1)
fitting (DecimalPlaces ∷ fs) counts (number (integer z) ∷ vs) same fit = absurd fit.0
fitting (DecimalPlaces ∷ fs) counts (rows rs ∷ vs) same fit = absurd fit.0
fitting (DecimalPlaces ∷ fs) counts (bytes bs ∷ vs) same fit = absurd fit.0

proper : (fs : List RecordField) (vs : List Value) → EachFits fs vs → Proper fs vs
proper [] vs fit = tt
proper (f ∷ fs) [] fit = tt
proper (ScaleBytes ∷ fs) (number (natural n) ∷ vs) fit = (fit.0.1, proper fs vs fit.1)
proper (ScaleBytes ∷ fs) (number (integer z) ∷ vs) fit = absurd fit.0
proper (ScaleBytes ∷ fs) (rows rs ∷ vs) fit = absurd fit.0
proper (ScaleBytes ∷ fs) (bytes bs ∷ vs) fit = absurd fit.0
proper (DecimalPlaces ∷ fs) (number (natural n) ∷ vs) fit = (fit.0.1, proper fs vs fit.1)
proper (DecimalPlaces ∷ fs) (number (integer z) ∷ vs) fit = absurd fit.0
proper (DecimalPlaces ∷ fs) (rows rs ∷ vs) fit = absurd fit.0
proper (DecimalPlaces ∷ fs) (bytes bs ∷ vs) fit = absurd fit.0
proper (Number size ∷ fs) (v ∷ vs) fit = (tt, proper fs vs fit.1)
proper (Count size of ∷ fs) (v ∷ vs) fit = (tt, proper fs vs fit.1)
proper (Rows of sizes ∷ fs) (v ∷ vs) fit = (tt, proper fs vs fit.1)
proper (Bytes of ∷ fs) (v ∷ vs) fit = (tt, proper fs vs fit.1)

each_in_field : (vs : List listed.Value) → AllByRecursion Fitting vs → EachFits (map field_of vs) (map value_of vs)
each_in_field [] fit = tt
each_in_field (v ∷ vs) fit = (fit.0, each_in_field vs fit.1)

-- the values of an object that fit are those of its record
all_fit : (o : Seen) (vs : List listed.Value) → AreValuesOf o vs → AllByRecursion Fitting vs → EachFits (fields_of (kind_of o)) (values_of o)
all_fit o vs are fit =
    subst (λ fs. EachFits fs (values_of o)) are.1
    (subst (λ values. EachFits (map field_of vs) values) are.0 (each_in_field vs fit))

has_record : (id : ℕ) (o : Seen) → id < null_id → EachFits (fields_of (kind_of o)) (values_of o) → HasRecord id o
has_record id o named fit = record {
  named = named;
  fields_fit = fitting (fields_of (kind_of o)) no_counts (values_of o) (counts_agree o) fit;
  proper = proper (fields_of (kind_of o)) (values_of o) fit;
}

-- an object whose values fit has a record
pub listed_has_record : (id : ℕ) (o : Seen) (vs : List listed.Value) → id < null_id → AreValuesOf o vs → AllByRecursion Fitting vs → HasRecord id o
listed_has_record id o vs named are fit = has_record id o named (all_fit o vs are fit)
