-- Loops that append what each element adds.
use Rattle.std.proofs.Common.{◌≡◌, ℕ, ◌+◌, ◌<◌, ◌≤◌, Bool, true, false, cond, not, List, [], ◌∷◌, ◌++◌, map, drop, length, get_or, refl, sym, ap, ◌∙◌, arith}
use Rattle.std.proofs.lemmas.List.{append_assoc, append-nil, at_drop_more, at_drop_all}
use Rattle.std.proofs.lemmas.List.Elements.{filter-append}
use Rattle.std.specs.Prelude.{filter}
use Rattle.std.specs.List.{flat_map}
use Rattle.check_inspect.specs.Lists.{all_failing}

-- ---- a list with a part more

pub nothing : {A : Type 0} (xs : List A) → length xs ≡ 0 → xs ≡ []
nothing [] none = refl
nothing (x ∷ xs) none = absurd (omega (arith, none))

pub moved : {A : Type 0} (all found part rest new : List A) → found ++ (part ++ rest) ≡ all → new ≡ found ++ part → new ++ rest ≡ all
moved all found part rest new is made = ap (λ l. l ++ rest) made ∙ append_assoc found part rest ∙ is

pub two_parts : {A : Type 0} (old one two whole mid new : List A) → mid ≡ old ++ one → new ≡ mid ++ two → whole ≡ one ++ two → new ≡ old ++ whole
two_parts old one two whole mid new first second is = second ∙ ap (λ l. l ++ two) first ∙ append_assoc old one two ∙ ap (λ l. old ++ l) (sym is)

-- ---- a loop over a list, where each element adds a list

module _ {X A : Type 0} (adds : X → List A) where
  pub next : (xs : List X) (i : ℕ) (x : X) → i < length xs → x ≡ get_or xs i x → flat_map adds (drop i xs) ≡ adds x ++ flat_map adds (drop (i + 1) xs)
  next xs i x lt is = at_drop_more (flat_map adds) xs i x lt ∙ ap (λ y. adds y ++ flat_map adds (drop (i + 1) xs)) (sym is)

  pub put_next : (all found new : List A) (xs : List X) (i : ℕ) (x : X) → i < length xs → x ≡ get_or xs i x → found ++ flat_map adds (drop i xs) ≡ all
      → new ≡ found ++ adds x → new ++ flat_map adds (drop (i + 1) xs) ≡ all
  put_next all found new xs i x lt is left made =
      moved all found (adds x) (flat_map adds (drop (i + 1) xs)) new (ap (λ l. found ++ l) (sym (next xs i x lt is)) ∙ left) made

  pub put_last : (all found : List A) (xs : List X) (i : ℕ) → length xs ≤ i → found ++ flat_map adds (drop i xs) ≡ all → found ≡ all
  put_last all found xs i past left = sym (append-nil found) ∙ ap (λ l. found ++ l) (sym (at_drop_all (flat_map adds) xs i past)) ∙ left

-- ---- what fails in joined lists

module _ {A : Type 0} (test : A → Bool) where
  pub all_failing-append : (xs ys : List A) → all_failing test (xs ++ ys) ≡ all_failing test xs ++ all_failing test ys
  all_failing-append xs ys = filter-append (λ x. not (test x)) xs ys

  pub all_failing-flat_map : {X : Type 0} (list : X → List A) (xs : List X) → all_failing test (flat_map list xs) ≡ flat_map (λ x. all_failing test (list x)) xs
  all_failing-flat_map list [] = refl
  all_failing-flat_map list (x ∷ xs) = all_failing-append (list x) (flat_map list xs) ∙ ap (λ l. all_failing test (list x) ++ l) (all_failing-flat_map list xs)

  pub all_failing-map : {X : Type 0} (f : X → A) (xs : List X) → all_failing test (map f xs) ≡ flat_map (λ x. all_failing test (f x ∷ [])) xs
  all_failing-map f [] = refl
  all_failing-map f (x ∷ xs) = all_failing-append (f x ∷ []) (map f xs) ∙ ap (λ l. all_failing test (f x ∷ []) ++ l) (all_failing-map f xs)

-- ---- what is made of all that fails

module _ {A B : Type 0} (test : A → Bool) where
  one_case : (f : A → B) (x : A) (b : Bool) (rest : List A) → map f (cond (not b) (x ∷ rest) rest) ≡ cond b [] (f x ∷ []) ++ map f rest
  one_case f x true rest = refl
  one_case f x false rest = refl

  pub map-all_failing : (f : A → B) (xs : List A) → map f (all_failing test xs) ≡ flat_map (λ x. cond (test x) [] (f x ∷ [])) xs
  map-all_failing f [] = refl
  map-all_failing f (x ∷ xs) = one_case f x (test x) (all_failing test xs) ∙ ap (λ l. cond (test x) [] (f x ∷ []) ++ l) (map-all_failing f xs)

  each_case : (f : A → List B) (x : A) (b : Bool) (rest : List A) → flat_map f (cond (not b) (x ∷ rest) rest) ≡ cond b [] (f x) ++ flat_map f rest
  each_case f x true rest = refl
  each_case f x false rest = refl

  pub flat_map-all_failing : (f : A → List B) (xs : List A) → flat_map f (all_failing test xs) ≡ flat_map (λ x. cond (test x) [] (f x)) xs
  flat_map-all_failing f [] = refl
  flat_map-all_failing f (x ∷ xs) = each_case f x (test x) (all_failing test xs) ∙ ap (λ l. cond (test x) [] (f x) ++ l) (flat_map-all_failing f xs)

  one_kept : (f : A → B) (x : A) (b : Bool) (rest : List A) → map f (cond b (x ∷ rest) rest) ≡ cond b (f x ∷ []) [] ++ map f rest
  one_kept f x true rest = refl
  one_kept f x false rest = refl

  -- what is made of all that pass
  pub map-filter : (f : A → B) (xs : List A) → map f (filter test xs) ≡ flat_map (λ x. cond (test x) (f x ∷ []) []) xs
  map-filter f [] = refl
  map-filter f (x ∷ xs) = one_kept f x (test x) (filter test xs) ∙ ap (λ l. cond (test x) (f x ∷ []) [] ++ l) (map-filter f xs)
