-- Objects of one kind for which no field is named have one record: their named values are equal, and a count is the length of
-- the list that it counts.
use Rattle.std.proofs.Common.{◌≡◌, refl, Bool, true, false, ◌&&◌, ◌==◌, ℕ, suc, List, [], ◌∷◌, ◌++◌, length, ◌∙◌, sym, ap, ap₂, subst, true≢false, if◌then◌else◌, eqb-true, eq-eqb}
use Rattle.std.proofs.lemmas.Bool.Decides.{Decides-int_eq}
use Rattle.std.specs.Cmp.Lexicographic.{pointwise}
use Rattle.byteorder.specs.Endian.{little_bytes}
use lib.ListN.{length-map}
use Rattle.vt_kinds.specs.declared.object.Object.TheVariants as objects
use Rattle.vt_kinds.specs.Kinds.{kind_number}
use Rattle.vt_kinds.specs.Layout.{RecordField, Count, Rows, Bytes, Counted, Objects, Macros, Others, Numeral, natural, integer, Value, number, rows, bytes, fields_spelling}
use Rattle.vt_kinds.specs.Records.{Seen, kind_of, fields_of, values_of, record_of}
use Rattle.check_changes.specs.FieldNames.{field_names}
use Rattle.check_changes.specs.Names.{Name}
use Rattle.check_changes.specs.Changes.{Change, change, same_numeral, same_value, named_values, differing, changed}

-- ---- equal values

both : (a b : Bool) → (a && b) ≡ true → (a ≡ true) × (b ≡ true)
both true b h = (refl, h)
both false b h = absurd (true≢false (sym h))

each_equal : {A : Type 0} (same : A → A → Bool) → ((a b : A) → same a b ≡ true → a ≡ b) → (xs ys : List A) → pointwise same xs ys ≡ true → xs ≡ ys
each_equal same sound [] [] h = refl
each_equal same sound [] (y ∷ ys) h = absurd (true≢false (sym h))
each_equal same sound (x ∷ xs) [] h = absurd (true≢false (sym h))
each_equal same sound (x ∷ xs) (y ∷ ys) h =
    let parts = both (same x y) (pointwise same xs ys) h in
    ap₂ (λ v vs. v ∷ vs) (sound x y parts.0) (each_equal same sound xs ys parts.1)

equal_numerals : (a b : Numeral) → same_numeral a b ≡ true → a ≡ b
equal_numerals (natural a) (natural b) h = ap natural (eqb-true a b h)
equal_numerals (natural a) (integer b) h = absurd (true≢false (sym h))
equal_numerals (integer a) (natural b) h = absurd (true≢false (sym h))
equal_numerals (integer a) (integer b) h = ap integer ((Decides-int_eq a b).0 h)

equal_values : (a b : Value) → same_value a b ≡ true → a ≡ b
equal_values (number a) (number b) h = ap number (equal_numerals a b h)
equal_values (number a) (rows b) h = absurd (true≢false (sym h))
equal_values (number a) (bytes b) h = absurd (true≢false (sym h))
equal_values (rows a) (number b) h = absurd (true≢false (sym h))
equal_values (rows a) (rows b) h = ap rows (each_equal (pointwise same_numeral) (each_equal same_numeral equal_numerals) a b h)
equal_values (rows a) (bytes b) h = absurd (true≢false (sym h))
equal_values (bytes a) (number b) h = absurd (true≢false (sym h))
equal_values (bytes a) (rows b) h = absurd (true≢false (sym h))
equal_values (bytes a) (bytes b) h = ap bytes (each_equal (λ x y. x == y) eqb-true a b h)

-- ---- an object beside itself

each_own : {A : Type 0} (same : A → A → Bool) → ((a : A) → same a a ≡ true) → (xs : List A) → pointwise same xs xs ≡ true
each_own same own [] = refl
each_own same own (x ∷ xs) = ap₂ (λ a b. a && b) (own x) (each_own same own xs)

own_numeral : (a : Numeral) → same_numeral a a ≡ true
own_numeral (natural a) = eq-eqb a a refl
own_numeral (integer a) = (Decides-int_eq a a).1 refl

own_value : (a : Value) → same_value a a ≡ true
own_value (number a) = own_numeral a
own_value (rows a) = each_own (pointwise same_numeral) (each_own same_numeral own_numeral) a
own_value (bytes a) = each_own (λ x y. x == y) (λ x. eq-eqb x x refl) a

none_of_own : (names : List Name) (vs : List Value) → differing names vs vs ≡ []
none_of_own [] vs = refl
none_of_own (n ∷ ns) [] = refl
none_of_own (n ∷ ns) (v ∷ vs) = ap (λ s. change n v v s ++ differing ns vs vs) (own_value v) ∙ none_of_own ns vs

pub own_unchanged : (o : Seen) → changed o o ≡ []
own_unchanged o =
    let names = differing (field_names (kind_of o)) (named_values o) (named_values o) in
    ap (λ (b : Bool). if b then names else []) (eq-eqb (kind_number (kind_of o)) (kind_number (kind_of o)) refl)
    ∙ none_of_own (field_names (kind_of o)) (named_values o)

-- ---- a name for each value

abbrev AllNamed : List Name → List Value → Type 0
AllNamed [] [] = Unit {0}
AllNamed (n ∷ ns) (v ∷ vs) = AllNamed ns vs
AllNamed _ _ = ⊥

some_change : (first : Change) (rest : List Change) → first ∷ rest ≡ [] → ⊥
some_change first rest h = subst (λ l. has_one l) h tt
  where
    has_one : List Change → Type 0
    has_one [] = ⊥
    has_one (_ ∷ _) = Unit {0}

none_differ : (names : List Name) (old new : List Value) → AllNamed names old → AllNamed names new → differing names old new ≡ [] → old ≡ new
none_differ [] [] [] p q h = refl
none_differ [] [] (b ∷ new) p q h = absurd q
none_differ [] (a ∷ old) new p q h = absurd p
none_differ (n ∷ ns) [] new p q h = absurd p
none_differ (n ∷ ns) (a ∷ old) [] p q h = absurd q
none_differ (n ∷ ns) (a ∷ old) (b ∷ new) p q h = by (none_differ ns old new p q) (same_value a b) refl
  where
    by : (differing ns old new ≡ [] → old ≡ new) → (same : Bool) → same_value a b ≡ same → a ∷ old ≡ b ∷ new
    by rest true is = ap₂ (λ v vs. v ∷ vs) (equal_values a b is) (rest (ap (λ s. change n a b s ++ differing ns old new) (sym is) ∙ h))
    by rest false is = absurd (some_change (record { name = n; old = a; new = b }) (differing ns old new) (ap (λ s. change n a b s ++ differing ns old new) (sym is) ∙ h))

all_named : (o : Seen) → AllNamed (field_names (kind_of o)) (named_values o)
all_named (objects.WorkingSet o) = tt
all_named _ = tt

equal_lengths : (names : List Name) (vs : List Value) → AllNamed names vs → length names ≡ length vs
equal_lengths [] [] p = refl
equal_lengths [] (v ∷ vs) p = absurd p
equal_lengths (n ∷ ns) [] p = absurd p
equal_lengths (n ∷ ns) (v ∷ vs) p = ap suc (equal_lengths ns vs p)

pub one_name_each : (o : Seen) → length (field_names (kind_of o)) ≡ length (named_values o)
one_name_each o = equal_lengths (field_names (kind_of o)) (named_values o) (all_named o)

-- ---- the counts, from the lists

abbrev position : Counted → ℕ
position Objects = 0
position Macros = 1
position Others = 2

-- the length of the first list of a sort among the named values
abbrev length_of : Counted → List RecordField → List Value → ℕ
length_of of (Count _ _ ∷ fs) vs = length_of of fs vs
length_of of (Rows other _ ∷ fs) (rows rs ∷ vs) = if position of == position other then length rs else length_of of fs vs
length_of of (Bytes other ∷ fs) (bytes bs ∷ vs) = if position of == position other then length bs else length_of of fs vs
length_of of (_ ∷ fs) (_ ∷ vs) = length_of of fs vs
length_of of _ _ = 0

-- all values, from the named ones
abbrev with_counts : List RecordField → List Value → List Value
with_counts (Count _ of ∷ fs) vs = number (natural (length_of of fs vs)) ∷ with_counts fs vs
with_counts (_ ∷ fs) (v ∷ vs) = v ∷ with_counts fs vs
with_counts _ _ = []

counts_restored : (o : Seen) → with_counts (fields_of (kind_of o)) (named_values o) ≡ values_of o
counts_restored (objects.NumberVariable o) = refl
counts_restored (objects.StringVariable o) = refl
counts_restored (objects.ObjectPointer o) = refl
counts_restored (objects.Macro o) = refl
counts_restored _ = simp length-map

-- ---- the law

pub one_record : (old new : Seen) → kind_of old ≡ kind_of new → changed old new ≡ [] → (id : ℕ) → record_of id old ≡ record_of id new
one_record old new of_one_kind none id =
    let k = kind_of old in
    let same_test = eq-eqb (kind_number (kind_of old)) (kind_number (kind_of new)) (ap kind_number of_one_kind) in
    let names = differing (field_names (kind_of old)) (named_values old) (named_values new) in
    let no_names : names ≡ [] = sym (ap (λ (b : Bool). if b then names else []) same_test) ∙ none in
    let values : named_values old ≡ named_values new =
    none_differ (field_names (kind_of old)) (named_values old) (named_values new) (all_named old)
    (subst (λ kind. AllNamed (field_names kind) (named_values new)) (sym of_one_kind) (all_named new)) no_names in
    ap₂ (λ kind vs. little_bytes 2 id ++ kind_number kind ∷ fields_spelling (fields_of kind) vs) of_one_kind
    (sym (counts_restored old) ∙ ap₂ (λ kind vs. with_counts (fields_of kind) vs) of_one_kind values ∙ counts_restored new)
