-- The objects in force after one more record.
use Rattle.std.proofs.Common.{◌≡◌, ◌≢◌, ℕ, Bool, true, false, cond, eqb, ◌||◌, not, List, [], ◌∷◌, ◌++◌, reverse, filter, refl, sym, ap, ◌∙◌}
use Rattle.std.specs.List.{list_any}
use Rattle.std.proofs.lemmas.Bool.{eqb-true, eqb-false, ne_eqb, eq-eqb}
use Rattle.std.proofs.lemmas.List.{append-nil, map_push, reverse-append}
use Rattle.std.proofs.lemmas.List.Elements.{filter-append}
use Rattle.std.specs.FinMap as finite
use Rattle.vt_kinds.specs.Records.{Seen}
use Rattle.vt_stores.specs.Stores.{ObjectMap}
use Rattle.vt_pool.specs.Pools.{PoolEntry, ids, contents, first_occurrences, IsInForce}
use Rattle.vt_pool.specs.EntryWrites.{with_entry}
use Rattle.vt_pool.proofs.EntryIndices.{with_id, ids_with, contents_with}

-- ---- the order of first occurrence

-- the IDs of a list except one
abbrev without : ℕ → List ℕ → List ℕ
without x xs = filter (λ other. not (eqb x other)) xs

any_cases : (b c : Bool) (id y : ℕ) (ys zs : List ℕ) → eqb id y ≡ c → (b ≡ true → c ≡ false) → list_any (eqb id) zs ≡ list_any (eqb id) ys
    → list_any (eqb id) (cond (not b) (y ∷ zs) zs) ≡ (c || list_any (eqb id) ys)
any_cases true c id y ys zs is apart later = later ∙ ap (λ (t : Bool). t || list_any (eqb id) ys) (sym (apart refl))
any_cases false c id y ys zs is apart later = ap (λ (t : Bool). t || list_any (eqb id) zs) is ∙ ap (λ (t : Bool). c || t) later

any_without : (x id : ℕ) (xs : List ℕ) → eqb id x ≡ false → list_any (eqb id) (without x xs) ≡ list_any (eqb id) xs
any_without x id [] other = refl
any_without x id (y ∷ ys) other =
    any_cases (eqb x y) (eqb id y) id y ys (without x ys) refl (λ is. ap (eqb id) (sym (eqb-true x y is)) ∙ other) (any_without x id ys other)

without_push : (x id : ℕ) (xs : List ℕ) (b : Bool) → eqb x id ≡ b → without x (xs ++ id ∷ []) ≡ without x xs ++ cond (not b) (id ∷ []) []
without_push x id xs b is = filter-append (λ other. not (eqb x other)) xs (id ∷ []) ∙ ap (λ (t : Bool). without x xs ++ cond (not t) (id ∷ []) []) is

same_cases : (c : Bool) (x id : ℕ) (xs : List ℕ) → eqb x id ≡ true → without x (cond c xs (xs ++ id ∷ [])) ≡ without x xs
same_cases true x id xs is = refl
same_cases false x id xs is = without_push x id xs true is ∙ append-nil (without x xs)

other_cases : (c : Bool) (x id : ℕ) (xs : List ℕ) → eqb x id ≡ false → x ∷ without x (cond c xs (xs ++ id ∷ [])) ≡ cond c (x ∷ without x xs) (x ∷ without x xs ++ id ∷ [])
other_cases true x id xs is = refl
other_cases false x id xs is = ap (λ (l : List ℕ). x ∷ l) (without_push x id xs false is)

front_cases : (b : Bool) (x id : ℕ) (xs : List ℕ) → eqb id x ≡ b → x ∷ without x (with_id xs id) ≡ cond (b || list_any (eqb id) (without x xs)) (x ∷ without x xs) (x ∷ without x xs ++ id ∷ [])
front_cases true x id xs is =
    ap (λ (l : List ℕ). x ∷ l) (same_cases (list_any (eqb id) xs) x id xs (eq-eqb x id (sym (eqb-true id x is))))
front_cases false x id xs is =
    let apart : id ≢ x = eqb-false id x is in
    other_cases (list_any (eqb id) xs) x id xs (ne_eqb x id (λ e. apart (sym e)))
    ∙ ap (λ (t : Bool). cond t (x ∷ without x xs) (x ∷ without x xs ++ id ∷ [])) (sym (any_without x id xs is))

first_push : (xs : List ℕ) (id : ℕ) → first_occurrences (xs ++ id ∷ []) ≡ with_id (first_occurrences xs) id
first_push [] id = refl
first_push (x ∷ xs) id =
    ap (λ (l : List ℕ). x ∷ without x l) (first_push xs id) ∙ front_cases (eqb id x) x id (first_occurrences xs) refl

-- ---- the objects in force

pub nothing_in_force : IsInForce [] []
nothing_in_force = record { order = refl; last = refl }

pub in_force_push : (records objects : List PoolEntry) (id : ℕ) (o : Seen) → IsInForce records objects → IsInForce (records ++ (id, o) ∷ []) (with_entry objects id o)
in_force_push records objects id o before =
    let pushed : ids (records ++ (id, o) ∷ []) ≡ ids records ++ id ∷ [] = map_push (λ e. e.0) records (id, o) in
    let turned : reverse (records ++ (id, o) ∷ []) ≡ (id, o) ∷ reverse records = reverse-append records ((id, o) ∷ []) in
    record {
      order = ids_with objects id o ∙ ap (λ (l : List ℕ). with_id l id) before.order ∙ sym (ap first_occurrences pushed ∙ first_push (ids records) id);
      last = contents_with objects id o ∙ ap (λ (m : ObjectMap). finite.insert m id o) before.last ∙ sym (ap contents turned);
    }
