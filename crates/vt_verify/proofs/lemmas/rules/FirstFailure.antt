-- The first failure in a pass over objects, each with a list of tested elements.
use Rattle.std.proofs.Common.{◌≡◌, ℕ, suc, ◌+◌, ◌<◌, Bool, true, false, cond, List, [], ◌∷◌, ◌++◌, map, drop, length, get_or, Option, Some, None, refl, sym, ap, ◌∙◌, arith}
use Rattle.std.proofs.Math.Seq.{drop-cons}
use Rattle.std.proofs.lemmas.Grind.{flat_map-append}
use Rattle.std.specs.List.{flat_map}
use Rattle.vt_kinds.specs.declared.object.Object.{Object}
use Rattle.vt_kinds.specs.Records.{Seen}
use Rattle.vt_stores.specs.Stores.{seen_entry, Objects}
use Rattle.std.specs.Option.{option_map}
use Rattle.vt_verify.specs.Lists.{first_failing}
use Rattle.vt_stores.specs.Shapes.{Fixed, fixed, shape_of}

module _ {R : Type 0} (test : R → Bool) where
  failing_case : (b : Bool) (x : R) (first rest : Option R) (r : R) → (first ≡ Some r → rest ≡ Some r) → cond b first (Some x) ≡ Some r → cond b rest (Some x) ≡ Some r
  failing_case true x first rest r later is = later is
  failing_case false x first rest r later is = is

  -- the first failure of a list is the first failure of every longer list that begins with it
  pub fails_in : (xs ys : List R) (r : R) → first_failing test xs ≡ Some r → first_failing test (xs ++ ys) ≡ Some r
  fails_in [] ys r is = absurd cc
  fails_in (x ∷ xs) ys r is = failing_case (test x) x (first_failing test xs) (first_failing test (xs ++ ys)) r (fails_in xs ys r) is

  passing_case : (b : Bool) (x : R) (first rest last : Option R) → (first ≡ None → rest ≡ last) → cond b first (Some x) ≡ None → cond b rest (Some x) ≡ last
  passing_case true x first rest last later is = later is
  passing_case false x first rest last later is = absurd cc

  -- if a whole list passes, the first failure is that of the list after it
  pub passes_in : (xs ys : List R) → first_failing test xs ≡ None → first_failing test (xs ++ ys) ≡ first_failing test ys
  passes_in [] ys is = refl
  passes_in (x ∷ xs) ys is =
      passing_case (test x) x (first_failing test xs) (first_failing test (xs ++ ys)) (first_failing test ys) (passes_in xs ys) is

  both_case : (b : Bool) (x : R) (first rest : Option R) (P : Type 0) → (rest ≡ None → P) → (P → first ≡ None) → cond b rest (Some x) ≡ None → (cond b first (Some x) ≡ None) × P
  both_case true x first rest P later back is = let p = later is in (back p, p)
  both_case false x first rest P later back is = absurd cc

  -- if two joined lists pass, both pass
  pub all_pass : (xs ys : List R) → first_failing test (xs ++ ys) ≡ None → (first_failing test xs ≡ None) × (first_failing test ys ≡ None)
  all_pass [] ys is = (refl, is)
  all_pass (x ∷ xs) ys is =
      let parts = both_case (test x) x (first_failing test xs) (first_failing test (xs ++ ys)) ((first_failing test xs ≡ None) × (first_failing test ys ≡ None)) (all_pass xs ys) (λ p. p.0) is in
      (parts.0, parts.1.1)

  -- ---- lists of objects

  module _ {B : Type 0} (list : ℕ × Seen → List R) where
    -- the remaining list begins with the list of the next object
    next : (items : List (ℕ × Object B)) (i : ℕ) (item : ℕ × Object B) → i < length items → item ≡ get_or items i item
        → flat_map list (map seen_entry (drop i items)) ≡ list (seen_entry item) ++ flat_map list (map seen_entry (drop (i + 1) items))
    next items i item lt is =
        let one : suc i ≡ i + 1 = omega arith in
        ap (λ (l : List (ℕ × Object B)). flat_map list (map seen_entry l)) (drop-cons items i item lt)
        ∙ ap (λ (x : ℕ × Object B). list (seen_entry x) ++ flat_map list (map seen_entry (drop (suc i) items))) (sym is)
        ∙ ap (λ (k : ℕ). list (seen_entry item) ++ flat_map list (map seen_entry (drop k items))) one

    pub all_pass_at : (items : List (ℕ × Object B)) (i : ℕ) (item : ℕ × Object B) → i < length items → item ≡ get_or items i item
        → first_failing test (flat_map list (map seen_entry (drop i items))) ≡ None
        → (first_failing test (list (seen_entry item)) ≡ None) × (first_failing test (flat_map list (map seen_entry (drop (i + 1) items))) ≡ None)
    all_pass_at items i item lt is all =
        all_pass (list (seen_entry item)) _ (sym (ap (first_failing test) (next items i item lt is)) ∙ all)

    pub fails_at : (all : Option R) (items : List (ℕ × Object B)) (i : ℕ) (item : ℕ × Object B) (r : R) (found : Option R) → i < length items → item ≡ get_or items i item
        → all ≡ first_failing test (flat_map list (map seen_entry (drop i items))) → found ≡ first_failing test (list (seen_entry item)) → found ≡ Some r → all ≡ Some r
    fails_at all items i item r found lt is left fails some =
        left ∙ ap (first_failing test) (next items i item lt is)
        ∙ fails_in (list (seen_entry item)) _ r (sym fails ∙ some)

    pub passes_at : (all : Option R) (items : List (ℕ × Object B)) (i : ℕ) (item : ℕ × Object B) (found : Option R) → i < length items → item ≡ get_or items i item
        → all ≡ first_failing test (flat_map list (map seen_entry (drop i items))) → found ≡ first_failing test (list (seen_entry item)) → found ≡ None
        → all ≡ first_failing test (flat_map list (map seen_entry (drop (i + 1) items)))
    passes_at all items i item found lt is left fails none =
        left ∙ ap (first_failing test) (next items i item lt is)
        ∙ passes_in (list (seen_entry item)) _ (sym fails ∙ none)

-- ---- a result made of the failing element

module _ {R S : Type 0} (test : R → Bool) (answer : R → S) where
  fails_case : (first : Option R) (whole : Option R) (out : Option S) (s : S) → ((r : R) → first ≡ Some r → whole ≡ Some r) → out ≡ option_map answer first → out ≡ Some s
      → option_map answer whole ≡ Some s
  fails_case None whole out s later is some = absurd cc
  fails_case (Some r) whole out s later is some = ap (option_map answer) (later r refl) ∙ sym is ∙ some

  passes_case : (first : Option R) (whole rest : Option R) (out : Option S) → (first ≡ None → whole ≡ rest) → out ≡ option_map answer first → out ≡ None → whole ≡ rest
  passes_case None whole rest out later is none = later refl
  passes_case (Some r) whole rest out later is none = absurd cc

  module _ {B : Type 0} (list : ℕ × Seen → List R) where
    pub told_fails : (all : Option S) (items : List (ℕ × Object B)) (i : ℕ) (item : ℕ × Object B) (s : S) (found : Option S) → i < length items → item ≡ get_or items i item
        → all ≡ option_map answer (first_failing test (flat_map list (map seen_entry (drop i items)))) → found ≡ option_map answer (first_failing test (list (seen_entry item))) → found ≡ Some s → all ≡ Some s
    told_fails all items i item s found lt is left fails some =
        left ∙ ap (λ (rs : List R). option_map answer (first_failing test rs)) (next test list items i item lt is)
        ∙ fails_case (first_failing test (list (seen_entry item))) (first_failing test (list (seen_entry item) ++ flat_map list (map seen_entry (drop (i + 1) items)))) found s
        (λ r. fails_in test (list (seen_entry item)) _ r) fails some

    pub told_passes : (all : Option S) (items : List (ℕ × Object B)) (i : ℕ) (item : ℕ × Object B) (found : Option S) → i < length items → item ≡ get_or items i item
        → all ≡ option_map answer (first_failing test (flat_map list (map seen_entry (drop i items)))) → found ≡ option_map answer (first_failing test (list (seen_entry item))) → found ≡ None
        → all ≡ option_map answer (first_failing test (flat_map list (map seen_entry (drop (i + 1) items))))
    told_passes all items i item found lt is left fails none =
        left ∙ ap (λ (rs : List R). option_map answer (first_failing test rs)) (next test list items i item lt is)
        ∙ ap (option_map answer)
        (passes_case (first_failing test (list (seen_entry item))) _ (first_failing test (flat_map list (map seen_entry (drop (i + 1) items)))) found
        (passes_in test (list (seen_entry item)) _) fails none)

-- ---- lists made of the shape of objects

pub over_objects : {R : Type 0} (list : ℕ × Fixed → List R) (objects : Objects) → flat_map list (shape_of objects) ≡ flat_map (λ e. list (e.0, fixed e.1)) objects
over_objects list [] = refl
over_objects list (e ∷ objects) = ap (λ rs. list (e.0, fixed e.1) ++ rs) (over_objects list objects)

pub each_of_each : {P R S : Type 0} (f : R → List S) (g : P → List R) (xs : List P) → flat_map f (flat_map g xs) ≡ flat_map (λ x. flat_map f (g x)) xs
each_of_each f g [] = refl
each_of_each f g (x ∷ xs) = flat_map-append f (g x) (flat_map g xs) ∙ ap (λ rs. flat_map f (g x) ++ rs) (each_of_each f g xs)
