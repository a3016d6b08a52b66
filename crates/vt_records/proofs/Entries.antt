-- List entries and scales are recovered from their numbers.
use Rattle.std.proofs.Common.{◌≡◌, ℕ, zero, suc, List, [], ◌∷◌, map, Option, Some, None, refl, sym, ap, ◌∙◌}
use Rattle.std.specs.Prelude.{pos}
use Rattle.std.specs.Int.{Width}
use Rattle.std.specs.List.{AllByRecursion}
use Rattle.vt_kinds.specs.declared.entries.Child.{Child}
use Rattle.vt_kinds.specs.declared.scale.Scale.{Scale}
use Rattle.vt_kinds.specs.declared.scale.Scale.TheVariants.{One}
use Rattle.vt_kinds.specs.Layout.{Counted, Objects, Macros, Others, Size, Unsigned, Signed, Numeral, natural, integer, RowFits}
use Rattle.vt_kinds.specs.Scales.{scale_number, scale_at, IsScale}
use Rattle.vt_kinds.specs.Tables.{child_numbers, macro_numbers, language_numbers, id_numbers, point_numbers}

-- the entries of a list with rows of these sizes: to numbers and back
pub record Entries (sizes : List Size) : Type 1 where
  pub Entry : Type 0
  pub numbers : Entry → List Numeral
  pub entry : List Numeral → Entry
  pub back : (x : Entry) → entry (numbers x) ≡ x
  pub again : (ns : List Numeral) → RowFits sizes ns → numbers (entry ns) ≡ ns

pub list_back : {sizes : List Size} (e : Entries sizes) (xs : List e.Entry) → map e.entry (map e.numbers xs) ≡ xs
list_back e [] = refl
list_back e (x ∷ xs) = λ i. e.back x i ∷ list_back e xs i

pub list_again : {sizes : List Size} (e : Entries sizes) (rs : List (List Numeral)) → AllByRecursion (RowFits sizes) rs → map e.numbers (map e.entry rs) ≡ rs
list_again e [] fit = refl
list_again e (r ∷ rs) fit = λ i. e.again r fit.0 i ∷ list_again e rs fit.1 i

-- ---- the entries of each list

abbrev pub child_from : List Numeral → Child
child_from (natural id ∷ integer x ∷ integer y ∷ []) = record { id = id; x = x; y = y }
child_from _ = record { id = 0; x = pos 0; y = pos 0 }

pub child_again : (a : ℕ) (b c : Width) (ns : List Numeral) → RowFits (Unsigned a ∷ Signed b ∷ Signed c ∷ []) ns → child_numbers (child_from ns) ≡ ns
child_again a b c (natural id ∷ integer x ∷ integer y ∷ []) fit = refl
child_again a b c ns fit = absurd (assumption)

abbrev pub id_from : List Numeral → ℕ
id_from (natural id ∷ []) = id
id_from _ = 0

pub id_again : (a : ℕ) (ns : List Numeral) → RowFits (Unsigned a ∷ []) ns → id_numbers (id_from ns) ≡ ns
id_again a (natural id ∷ []) fit = refl
id_again a ns fit = absurd (assumption)

abbrev pub pair_from : {X : Type 0} → (ℕ → ℕ → X) → List Numeral → X
pair_from pair (natural x ∷ natural y ∷ []) = pair x y
pair_from pair _ = pair 0 0

-- the numbers of a pair are x and y
abbrev pub ArePairs : {X : Type 0} → (X → List Numeral) → (ℕ → ℕ → X) → Type 0
ArePairs numbers pair = (x y : ℕ) → numbers (pair x y) ≡ natural x ∷ natural y ∷ []

pub pair_again : {X : Type 0} (numbers : X → List Numeral) (pair : ℕ → ℕ → X) → ArePairs numbers pair → (a b : ℕ) (ns : List Numeral) → RowFits (Unsigned a ∷ Unsigned b ∷ []) ns → numbers (pair_from pair ns) ≡ ns
pair_again numbers pair are_pairs a b (natural x ∷ natural y ∷ []) fit = are_pairs x y
pair_again numbers pair are_pairs a b ns fit = absurd (assumption)

abbrev pub pairs : {X : Type 0} (numbers : X → List Numeral) (pair : ℕ → ℕ → X) → ArePairs numbers pair → ((x : X) → pair_from pair (numbers x) ≡ x) → (a b : ℕ) → Entries (Unsigned a ∷ Unsigned b ∷ [])
pairs {X} numbers pair are_pairs back a b = record { Entry = X; numbers = numbers; entry = pair_from pair; back = back; again = pair_again numbers pair are_pairs a b }

-- the entry type of a list, by the count that counts it and its row sizes
abbrev pub entries_of : Counted → (sizes : List Size) → Entries sizes
entries_of Objects (Unsigned a ∷ Signed b ∷ Signed c ∷ []) = record { Entry = Child; numbers = child_numbers; entry = child_from; back = λ x. refl; again = child_again a b c }
entries_of Macros (Unsigned a ∷ Unsigned b ∷ []) = pairs macro_numbers (λ x y. record { event = x; macro_id = y }) (λ x y. refl) (λ x. refl) a b
entries_of Others (Unsigned (suc zero) ∷ Unsigned b ∷ []) = pairs language_numbers (λ x y. record { first = x; second = y }) (λ x y. refl) (λ x. refl) 1 b
entries_of Others (Unsigned a ∷ Unsigned b ∷ []) = pairs point_numbers (λ x y. record { x = x; y = y }) (λ x y. refl) (λ x. refl) a b
entries_of of (Unsigned a ∷ []) = record { Entry = ℕ; numbers = id_numbers; entry = id_from; back = λ x. refl; again = id_again a }
entries_of of sizes = record { Entry = List Numeral; numbers = λ ns. ns; entry = λ ns. ns; back = λ ns. refl; again = λ ns fit. refl }

-- ---- scales from numbers

abbrev or_one : Option Scale → Scale
or_one None = One
or_one (Some s) = s

-- the scale with a number; One for other numbers
abbrev pub scale_from : ℕ → Scale
scale_from n = or_one (scale_at n)

pub scale_back : (s : Scale) → scale_from (scale_number s) ≡ s
scale_back One = refl
scale_back s = refl

pub scale_again : (n : ℕ) → IsScale n → scale_number (scale_from n) ≡ n
scale_again n is = ap (λ (k : ℕ). scale_number (scale_from k)) is.1 ∙ ap scale_number (scale_back is.0) ∙ sym is.1
