-- The equality of values, and the fields whose values differ.
use Rattle.std.proofs.Common.{◌≡◌, refl, Bool, true, false, not, ◌&&◌, ◌==◌, ℕ, List, [], ◌∷◌, ◌++◌, map, filter, ◌∙◌, ap, ap₂, int_eq, Bor, cond, if◌then◌else◌, ◌≢◌, sym, eq-eqb, Some}
use Rattle.std.proofs.lemmas.Bool.{ne_eqb}
use Rattle.std.specs.Cmp.Lexicographic.{pointwise}
use Rattle.vt_kinds.specs.declared.scale.Scale.{Scale}
use Rattle.vt_kinds.specs.declared.scale.Scale.TheVariants.{One, Tenth, Hundredth, Thousandth}
use Rattle.vt_kinds.specs.declared.entries.Child.{Child}
use Rattle.vt_kinds.specs.declared.entries.Language.{Language}
use Rattle.vt_kinds.specs.declared.entries.MacroEntry.{MacroEntry}
use Rattle.vt_kinds.specs.declared.entries.Point.{Point}
use Rattle.vt_kinds.specs.contracts.scale.ScalePartialEq.TheImpl as scales
use Rattle.vt_kinds.specs.declared.kind.Kind.{Kind}
use Rattle.vt_kinds.specs.declared.kind.Kind.TheVariants as kinds
use Rattle.vt_kinds.specs.declared.object.Object.{Object}
use Rattle.vt_kinds.specs.declared.object.Object.TheVariants as objects
use Rattle.vt_kinds.specs.Kinds.{kind_number, kind_of_type}
use Rattle.vt_kinds.specs.Layout.{RecordField, Number, Count, Rows, Bytes, ScaleBytes, DecimalPlaces, Numeral}
use Rattle.vt_kinds.specs.Layout as layout
use Rattle.vt_kinds.specs.Records.{Seen, seen, kind_of, fields_of}
use Rattle.vt_kinds.specs.Scales.{scale_number}
use Rattle.vt_kinds.specs.Tables.{child_numbers, macro_numbers, language_numbers, id_numbers, point_numbers}
use Rattle.check_changes.specs.FieldNames.{field_names}
use Rattle.check_changes.specs.Names.{Name, name_bytes, not_counts}
use Rattle.check_changes.specs.ChangedFields.{Row, rows_unlike}
use Rattle.check_changes.specs.Changes.{Change, change, same_numeral, same_value, without_counts, named_values, differing, changed}
use Rattle.vt_writing.specs.Values.{value_of, field_of, counts, is_count, AreValuesOf}
use Rattle.vt_writing.specs.declared.value.Value.{Value}
use Rattle.vt_writing.specs.declared.value.Value.TheVariants as values
use Rattle.vt_writing.specs.contracts.value.ValuePartialEq.TheImpl.{ghosts}

-- ---- the equality of values

-- rows of numbers are equal where the elements are
same_rows : {X : Type 0} (numbers : X → List Numeral) (same : X → X → Bool) → ((a b : X) → same a b ≡ pointwise same_numeral (numbers a) (numbers b))
    → (xs ys : List X) → pointwise same xs ys ≡ pointwise (pointwise same_numeral) (map numbers xs) (map numbers ys)
same_rows numbers same each [] [] = refl
same_rows numbers same each [] (y ∷ ys) = refl
same_rows numbers same each (x ∷ xs) [] = refl
same_rows numbers same each (x ∷ xs) (y ∷ ys) = ap₂ (λ a b. a && b) (each x y) (same_rows numbers same each xs ys)

and_true : (b : Bool) → b ≡ (b && true)
and_true true = refl
and_true false = refl

same_child : (a b : Child) → ((a.id == b.id) && ((int_eq a.x b.x) && (int_eq a.y b.y))) ≡ pointwise same_numeral (child_numbers a) (child_numbers b)
same_child a b = ap (λ y. (a.id == b.id) && ((int_eq a.x b.x) && y)) (and_true (int_eq a.y b.y))

same_id : (a b : ℕ) → (a == b) ≡ pointwise same_numeral (id_numbers a) (id_numbers b)
same_id a b = and_true (a == b)

same_entry : (a b : MacroEntry) → ((a.event == b.event) && (a.macro_id == b.macro_id)) ≡ pointwise same_numeral (macro_numbers a) (macro_numbers b)
same_entry a b = ap (λ m. (a.event == b.event) && m) (and_true (a.macro_id == b.macro_id))

same_language : (a b : Language) → ((a.first == b.first) && (a.second == b.second)) ≡ pointwise same_numeral (language_numbers a) (language_numbers b)
same_language a b = ap (λ m. (a.first == b.first) && m) (and_true (a.second == b.second))

same_point : (a b : Point) → ((a.x == b.x) && (a.y == b.y)) ≡ pointwise same_numeral (point_numbers a) (point_numbers b)
same_point a b = ap (λ m. (a.x == b.x) && m) (and_true (a.y == b.y))

same_scale : (a b : Scale) → scales.ghosts.eq a b ≡ (scale_number a == scale_number b)
same_scale One One = refl
same_scale One Tenth = refl
same_scale One _ = refl
same_scale Tenth One = refl
same_scale Tenth _ = refl
same_scale Hundredth One = refl
same_scale Hundredth _ = refl
same_scale Thousandth One = refl
same_scale Thousandth _ = refl

-- values of one field are equal where they are equal in the record
pub same_values : (a b : Value) → field_of a ≡ field_of b → ghosts.eq a b ≡ same_value (value_of a) (value_of b)
same_values (values.Byte a) (values.Byte b) h = refl
same_values (values.Word a) (values.Word b) h = refl
same_values (values.Long a) (values.Long b) h = refl
same_values (values.SignedLong a) (values.SignedLong b) h = refl
same_values (values.Scale a) (values.Scale b) h = same_scale a b
same_values (values.Decimals a) (values.Decimals b) h = refl
same_values (values.ObjectCount a) (values.ObjectCount b) h = refl
same_values (values.MacroCount a) (values.MacroCount b) h = refl
same_values (values.Count a) (values.Count b) h = refl
same_values (values.LongCount a) (values.LongCount b) h = refl
same_values (values.PictureCount a) (values.PictureCount b) h = refl
same_values (values.Children a) (values.Children b) h = same_rows child_numbers _ same_child a.now b.now
same_values (values.Keys a) (values.Keys b) h = same_rows id_numbers _ same_id a.now b.now
same_values (values.Items a) (values.Items b) h = same_rows id_numbers _ same_id a.now b.now
same_values (values.Macros a) (values.Macros b) h = same_rows macro_numbers _ same_entry a.now b.now
same_values (values.Languages a) (values.Languages b) h = same_rows language_numbers _ same_language a.now b.now
same_values (values.Points a) (values.Points b) h = same_rows point_numbers _ same_point a.now b.now
same_values (values.Bytes a) (values.Bytes b) h = refl
same_values a b h = absurd (cc)

-- ---- the fields whose values differ

pub map_twice : {X Y Z : Type 0} (f : Y → Z) (g : X → Y) (xs : List X) → map f (map g xs) ≡ map (λ x. f (g x)) xs
map_twice f g [] = refl
map_twice f g (x ∷ xs) = ap (λ rest. f (g x) ∷ rest) (map_twice f g xs)

abbrev change_of : Row Value → Change
change_of row = record { name = row.0.0.now; old = value_of row.0.1; new = value_of row.1 }

-- a part of each row is that part of its change
abbrev pub IsPart : {X : Type 0} → (Row Value → X) → (Change → X) → Type 0
IsPart part of = (row : Row Value) → part row ≡ of (change_of row)

in_row : {X : Type 0} (part : Row Value → X) (of : Change → X) → IsPart part of → (equal : Bool) (row : Row Value) (rest : List (Row Value)) (more : List Change)
    → map part rest ≡ map of more → map part (cond (not equal) (row ∷ rest) rest) ≡ map of (change row.0.0.now (value_of row.0.1) (value_of row.1) equal ++ more)
in_row part of each true row rest more same = same
in_row part of each false row rest more same = ap₂ (λ x xs. x ∷ xs) (each row) same

in_rows : {X : Type 0} (part : Row Value → X) (of : Change → X) → IsPart part of
    → (same : Value → Value → Bool) → ((a b : Value) → field_of a ≡ field_of b → same a b ≡ same_value (value_of a) (value_of b))
    → (names : List (Bor Name)) (old new : List Value) → map field_of old ≡ map field_of new
    → map part (rows_unlike same names old new) ≡ map of (differing (name_bytes names) (map value_of old) (map value_of new))
in_rows part of each same equals [] old new h = refl
in_rows part of each same equals (n ∷ ns) [] new h = refl
in_rows part of each same equals (n ∷ ns) (a ∷ old) [] h = refl
in_rows part of each same equals (n ∷ ns) (a ∷ old) (b ∷ new) h =
    let first : field_of a ≡ field_of b = cc in
    let others : map field_of old ≡ map field_of new = cc in
    let more = differing (name_bytes ns) (map value_of old) (map value_of new) in
    in_row part of each (same a b) ((n, a), b) (rows_unlike same ns old new) more (in_rows part of each same equals ns old new others)
    ∙ ap (λ equal. map of (change n.now (value_of a) (value_of b) equal ++ more)) (equals a b first)

-- ---- the values but for the counts

-- the fields but for the counts
abbrev named_fields : List RecordField → List RecordField
named_fields fs = filter (λ f. not (counts f)) fs

-- more values, without the first if it is a count
more_fields : (count : Bool) (v : Value) (vs : List Value) (fs : List RecordField) → map field_of vs ≡ fs
    → map field_of (cond (not count) (v ∷ vs) vs) ≡ cond (not count) (field_of v ∷ fs) fs
more_fields true v vs fs same = same
more_fields false v vs fs same = ap (λ more. field_of v ∷ more) same

of_fields : (vs : List Value) → map field_of (not_counts vs) ≡ named_fields (map field_of vs)
of_fields [] = refl
of_fields (v ∷ vs) = more_fields (is_count v) v (not_counts vs) (named_fields (map field_of vs)) (of_fields vs)

in_front : (f : RecordField) (fs : List RecordField) (v : layout.Value) (vs : List layout.Value)
    → (if counts f then without_counts fs vs else v ∷ without_counts fs vs) ≡ without_counts (f ∷ fs) (v ∷ vs)
in_front (Number size) fs v vs = refl
in_front (Count size of) fs v vs = refl
in_front (Rows of sizes) fs v vs = refl
in_front (Bytes of) fs v vs = refl
in_front ScaleBytes fs v vs = refl
in_front DecimalPlaces fs v vs = refl

more_values : (count : Bool) (v : Value) (vs : List Value) (xs : List layout.Value) → map value_of vs ≡ xs
    → map value_of (cond (not count) (v ∷ vs) vs) ≡ (if count then xs else value_of v ∷ xs)
more_values true v vs xs same = same
more_values false v vs xs same = ap (λ more. value_of v ∷ more) same

of_values : (vs : List Value) → map value_of (not_counts vs) ≡ without_counts (map field_of vs) (map value_of vs)
of_values [] = refl
of_values (v ∷ vs) =
    more_values (is_count v) v (not_counts vs) (without_counts (map field_of vs) (map value_of vs)) (of_values vs)
    ∙ in_front (field_of v) (map field_of vs) (value_of v) (map value_of vs)

-- ---- the fields in which two objects differ

known : (k : Kind) → kind_of_type (kind_number k) ≡ Some k
known kinds.WorkingSet = refl
known _ = refl

one_kind : (j k : Kind) → kind_number j ≡ kind_number k → j ≡ k
one_kind j k same = let some : Some j ≡ Some k = sym (known j) ∙ ap kind_of_type same ∙ known k in cc

kind_seen : {B : Type 0} (o : Object B) → kind_of (seen o) ≡ kind_of o
kind_seen (objects.WorkingSet o) = refl
kind_seen _ = refl

abbrev by_kind : Seen → Seen → Bool → List Change
by_kind old new of_one_kind = if of_one_kind then differing (field_names (kind_of old)) (named_values old) (named_values new) else []

pub in_changed : {X B : Type 0} (found : List X) (part : Row Value → X) (of : Change → X) → IsPart part of
    → (old new : Object B) (names : List (Bor Name)) (olds news named_olds named_news : List Value)
    → kind_number (kind_of old) ≡ kind_number (kind_of new) → name_bytes names ≡ field_names (kind_of old) → AreValuesOf (seen old) olds → AreValuesOf (seen new) news
    → named_olds ≡ not_counts olds → named_news ≡ not_counts news → found ≡ map part (rows_unlike ghosts.eq names named_olds named_news)
    → found ≡ map of (changed (seen old) (seen new))
in_changed found part of each old new names olds news named_olds named_news same called of_old of_new old_named new_named is =
    let kinds : kind_of (seen old) ≡ kind_of (seen new) = kind_seen old ∙ one_kind _ _ same ∙ sym (kind_seen new) in
    let fields : map field_of olds ≡ map field_of news = of_old.1 ∙ ap fields_of kinds ∙ sym of_new.1 in
    let named : map field_of (not_counts olds) ≡ map field_of (not_counts news) = of_fields olds ∙ ap named_fields fields ∙ sym (of_fields news) in
    let names_seen : name_bytes names ≡ field_names (kind_of (seen old)) = called ∙ ap field_names (sym (kind_seen old)) in
    is ∙ ap₂ (λ os ns. map part (rows_unlike ghosts.eq names os ns)) old_named new_named
    ∙ in_rows part of each ghosts.eq same_values names (not_counts olds) (not_counts news) named
    ∙ ap (map of)
    (ap (λ ns. differing ns (map value_of (not_counts olds)) (map value_of (not_counts news))) names_seen
    ∙ ap₂ (λ os ns. differing (field_names (kind_of (seen old))) os ns)
    (of_values olds ∙ ap₂ without_counts of_old.1 of_old.0) (of_values news ∙ ap₂ without_counts of_new.1 of_new.0)
    ∙ sym (ap (by_kind (seen old) (seen new)) (eq-eqb _ _ (ap kind_number kinds))))

pub unlike : {B : Type 0} (old new : Object B) → kind_number (kind_of old) ≢ kind_number (kind_of new) → [] ≡ changed (seen old) (seen new)
unlike old new other =
    sym (ap (by_kind (seen old) (seen new))
    (ne_eqb _ _ (λ same. other (sym (ap kind_number (kind_seen old)) ∙ same ∙ ap kind_number (kind_seen new)))))
