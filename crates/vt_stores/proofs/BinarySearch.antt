-- The results of a binary search for an ID among entries with rising IDs.
use Rattle.std.proofs.Common.{◌≡◌, ◌≢◌, ℕ, zero, suc, ◌<◌, ◌≤◌, Bool, true, false, cond, List, [], ◌∷◌, map, length, Option, Some, None, refl, sym, ap, subst, ◌∙◌, arith, inl, inr}
use Rattle.std.proofs.lemmas.Bool.{cases_lt}
use Rattle.std.specs.Prelude.{slice_index_or, slice_get, IsTrue}
use Rattle.std.specs.Ordering.{nat_cmp, is_lt, is_eq, eq_by_cmp, ordering_index}
use Rattle.std.specs.declared.cmp.Ordering.{Ordering}
use Rattle.std.specs.declared.cmp.Ordering.TheVariants.{Less, Equal, Greater}
use Rattle.std.specs.FinMap as finite
use Rattle.std.specs.FinMap.Entries.{below_all}
use Rattle.std.specs.List.Sorted.{IsNonDecreasingBy, IsPartitionPoint, IsSearchInRange, IsBinarySearchResult}
use Rattle.std.specs.Prelude.{HoldsAt, IfSome, IfNone}
use Rattle.std.specs.Result.{result_ok}
use Rattle.std.proofs.Common.{Result, Ok, Err}
use Rattle.vt_kinds.specs.declared.object.Object.{Object}
use Rattle.vt_kinds.specs.Records.{seen}
use Rattle.vt_stores.specs.Stores.{seen_entry}
use Rattle.vt_stores.specs.Stores.{Objects, IsRising, IsPlace, object_at}
use Rattle.vt_stores.proofs.SortedEntries.{less, equal, greater, Three, below, same, above, three, both_true}

-- a true test is_lt on nat_cmp means that the first number is less
pub is_below : (a b : ℕ) → Three a b → IsTrue (is_lt (nat_cmp a b)) → a < b
is_below a b (below lt) is = lt
is_below a b (same e) is =
    let never : false ≡ true = subst (λ (o : Ordering). is_lt o ≡ true) (subst (λ (k : ℕ). nat_cmp a k ≡ Equal) e (equal a)) is in
    absurd cc
is_below a b (above lt) is =
    let never : false ≡ true = subst (λ (o : Ordering). is_lt o ≡ true) (greater a b lt) is in
    absurd cc

pub is_equal : (a b : ℕ) → Three a b → nat_cmp a b ≡ Equal → a ≡ b
is_equal a b (below lt) is = absurd (lesser (sym (less a b lt) ∙ is))
  where
    lesser : Less ≡ Equal → ⊥
    lesser e = absurd cc
is_equal a b (same e) is = e
is_equal a b (above lt) is = absurd (greater_is (sym (greater a b lt) ∙ is))
  where
    greater_is : Greater ≡ Equal → ⊥
    greater_is e = absurd cc

index_by : (a b id : ℕ) → a ≤ b → Three a id → Three b id → ordering_index (nat_cmp a id) ≤ ordering_index (nat_cmp b id)
index_by a b id le (below lt) other = subst (λ (o : Ordering). ordering_index o ≤ ordering_index (nat_cmp b id)) (sym (less a id lt)) (omega arith)
index_by a b id le one (above lt) = subst (λ (o : Ordering). ordering_index (nat_cmp a id) ≤ ordering_index o) (sym (greater b id lt)) (most (nat_cmp a id))
  where
    most : (o : Ordering) → ordering_index o ≤ 2
    most Less = omega arith
    most Equal = omega arith
    most Greater = omega arith
index_by a b id le (same e) (same d) = subst (λ (k : ℕ). ordering_index (nat_cmp a id) ≤ ordering_index (nat_cmp k id)) (e ∙ sym d) (omega arith)
index_by a b id le (same e) (below lt) = absurd (omega (arith, e))
index_by a b id le (above lt) (same e) = absurd (omega (arith, e))
index_by a b id le (above lt) (below later) = absurd (omega arith)

pub other_id : (e id : ℕ) → e ≢ id → Three id e → eq_by_cmp nat_cmp id e ≡ false
other_id e id differs (below lt) = ap is_eq (less id e lt)
other_id e id differs (same is) = absurd (differs (sym is))
other_id e id differs (above lt) = ap is_eq (greater id e lt)

not_by : (o : Ordering) (e id : ℕ) → nat_cmp e id ≡ o → (o ≡ Equal → ⊥) → e ≢ id
not_by o e id is never met = never (sym is ∙ subst (λ (k : ℕ). nat_cmp e k ≡ Equal) met (equal e))

less_no : Less ≡ Equal → ⊥
less_no e = absurd cc

greater_no : Greater ≡ Equal → ⊥
greater_no e = absurd cc

module _ {B : Type 0} where
  pub above_at : (a : ℕ) (es : List (ℕ × Object B)) (i : ℕ) (d : ℕ × Object B) → IsTrue (below_all nat_cmp a (map seen_entry es)) → i < length es → a < (slice_index_or es i d).0
  above_at a [] i d all lt = absurd (omega arith)
  above_at a (e ∷ es) zero d all lt = is_below a e.0 (three a e.0) (both_true (is_lt (nat_cmp a e.0)) (below_all nat_cmp a (map seen_entry es)) all).0
  above_at a (e ∷ es) (suc i) d all lt = above_at a es i d (both_true (is_lt (nat_cmp a e.0)) (below_all nat_cmp a (map seen_entry es)) all).1 (omega arith)

  below_parts : (e : ℕ × Object B) (es : List (ℕ × Object B)) → IsRising (map seen_entry (e ∷ es)) → IsTrue (below_all nat_cmp e.0 (map seen_entry es)) × IsRising (map seen_entry es)
  below_parts e es rising = both_true (below_all nat_cmp e.0 (map seen_entry es)) (finite.is_sorted nat_cmp (map seen_entry es)) rising

  rising_at : (es : List (ℕ × Object B)) (i j : ℕ) (d : ℕ × Object B) → IsRising (map seen_entry es) → i ≤ j → j < length es → (slice_index_or es i d).0 ≤ (slice_index_or es j d).0
  rising_at [] i j d rising le lt = absurd (omega arith)
  rising_at (e ∷ es) zero zero d rising le lt = omega arith
  rising_at (e ∷ es) zero (suc j) d rising le lt =
      let more = above_at e.0 es j d (below_parts e es rising).0 (omega arith) in
      omega arith
  rising_at (e ∷ es) (suc i) zero d rising le lt = absurd (omega arith)
  rising_at (e ∷ es) (suc i) (suc j) d rising le lt = rising_at es i j d (below_parts e es rising).1 (omega arith) (omega arith)

  pub in_order : (es : List (ℕ × Object B)) (id : ℕ) → IsRising (map seen_entry es) → IsNonDecreasingBy (λ (e : ℕ × Object B). ordering_index (nat_cmp e.0 id)) es
  in_order es id rising i j d le lt =
      let a = (slice_index_or es i d).0 in
      let b = (slice_index_or es j d).0 in
      index_by a b id (rising_at es i j d rising le lt) (three a id) (three b id)

  -- ---- the object at an index

  pub get_at : (es : List (ℕ × Object B)) (i : ℕ) (d : ℕ × Object B) → i < length es → slice_get (map seen_entry es) i ≡ Some (seen_entry (slice_index_or es i d))
  get_at [] i d lt = absurd (omega arith)
  get_at (e ∷ es) zero d lt = refl
  get_at (e ∷ es) (suc i) d lt = get_at es i d (omega arith)

  pub found_at : (es : List (ℕ × Object B)) (i : ℕ) (d : ℕ × Object B) → IsRising (map seen_entry es) → i < length es
      → object_at (map seen_entry es) (slice_index_or es i d).0 ≡ Some (seen (slice_index_or es i d).1)
  found_at [] i d rising lt = absurd (omega arith)
  found_at (e ∷ es) zero d rising lt =
      ap (λ (o : Ordering). cond (is_eq o) (Some (seen e.1)) (object_at (map seen_entry es) e.0)) (equal e.0)
  found_at (e ∷ es) (suc i) d rising lt =
      let parts = below_parts e es rising in
      let k = (slice_index_or es i d).0 in
      ap (λ (o : Ordering). cond (is_eq o) (Some (seen e.1)) (object_at (map seen_entry es) k)) (greater k e.0 (above_at e.0 es i d parts.0 (omega arith)))
      ∙ found_at es i d parts.1 (omega arith)

  pub place_at : (es : List (ℕ × Object B)) (id i : ℕ) (d : ℕ × Object B) → IsRising (map seen_entry es) → i < length es → nat_cmp (slice_index_or es i d).0 id ≡ Equal
      → IsPlace (map seen_entry es) id i
  place_at es id i d rising lt is =
      let e = slice_index_or es i d in
      let same_id : e.0 ≡ id = is_equal e.0 id (three e.0 id) is in
      record {
        object = seen e.1;
        there = get_at es i d lt ∙ ap (λ (k : ℕ). Some (k, seen e.1)) same_id;
        found = subst (λ (k : ℕ). object_at (map seen_entry es) k ≡ Some (seen e.1)) same_id (found_at es i d rising lt);
      }

  -- ---- a missing ID

  missed : (es : List (ℕ × Object B)) (id : ℕ) → ((i : ℕ) (d : ℕ × Object B) → i < length es → (slice_index_or es i d).0 ≢ id) → object_at (map seen_entry es) id ≡ None
  missed [] id differs = refl
  missed (e ∷ es) id differs =
      ap (λ (b : Bool). cond b (Some (seen e.1)) (object_at (map seen_entry es) id)) (other_id e.0 id (differs 0 e (omega arith)) (three id e.0))
      ∙ missed es id (λ i d lt. differs (suc i) d (omega arith))

  pub none_at : (es : List (ℕ × Object B)) (id i : ℕ) → IsPartitionPoint (λ (e : ℕ × Object B). nat_cmp e.0 id ≡ Less) (λ (e : ℕ × Object B). nat_cmp e.0 id ≡ Greater) es i
      → object_at (map seen_entry es) id ≡ None
  none_at es id i parts =
      missed es id
      (λ k d lt. elim (cases_lt k i) [
        | inl lower ↦ not_by Less (slice_index_or es k d).0 id (parts.0 k d (omega arith) lower) less_no
        | inr upper ↦ not_by Greater (slice_index_or es k d).0 id (parts.1 k d upper lt) greater_no
      ])

  -- ---- the result of a binary search

  placed_at : (es : List (ℕ × Object B)) (id i : ℕ) → IsRising (map seen_entry es) → i < length es → HoldsAt (λ (e : ℕ × Object B). nat_cmp e.0 id ≡ Equal) es i
      → IsPlace (map seen_entry es) id i
  placed_at [] id i rising lt holds = absurd (omega arith)
  placed_at (e ∷ es) id i rising lt holds = place_at (e ∷ es) id i e rising lt (holds e)

  pub search_found : (es : List (ℕ × Object B)) (id : ℕ) (r : Result ℕ ℕ) → IsRising (map seen_entry es) → IsSearchInRange r (length es)
      → IsBinarySearchResult (λ (e : ℕ × Object B). nat_cmp e.0 id) es r → IfSome (result_ok r) (λ place. IsPlace (map seen_entry es) id place)
  search_found es id (Ok i) rising lt found = placed_at es id i rising lt found
  search_found es id (Err i) rising lt found = tt

  pub search_missed : (es : List (ℕ × Object B)) (id : ℕ) (r : Result ℕ ℕ) → IsRising (map seen_entry es) → IsSearchInRange r (length es)
      → IsBinarySearchResult (λ (e : ℕ × Object B). nat_cmp e.0 id) es r → IfNone (result_ok r) (object_at (map seen_entry es) id ≡ None)
  search_missed es id (Ok i) rising lt found = tt
  search_missed es id (Err i) rising lt found = none_at es id i (found (in_order es id rising))

  -- search_found for equal entries, view, ID and result
  pub found_in : (es searched : List (ℕ × Object B)) (seen_as : Objects) (k id : ℕ) (r : Result ℕ ℕ) (out : Option ℕ)
      → searched ≡ es → seen_as ≡ map seen_entry es → k ≡ id → out ≡ result_ok r → IsRising (map seen_entry es) → IsSearchInRange r (length searched)
      → IsBinarySearchResult (λ (e : ℕ × Object B). nat_cmp e.0 k) searched r → IfSome out (λ place. IsPlace seen_as id place)
  found_in es searched seen_as k id r out same_list view same_id answer rising lt found =
      subst (λ (o : Option ℕ). IfSome o (λ place. IsPlace seen_as id place)) (sym answer)
      (subst (λ (v : Objects). IfSome (result_ok r) (λ place. IsPlace v id place)) (sym view)
      (search_found es id r rising (subst (λ (l : List (ℕ × Object B)). IsSearchInRange r (length l)) same_list lt)
      (subst (λ (n : ℕ). IsBinarySearchResult (λ (e : ℕ × Object B). nat_cmp e.0 n) es r) same_id
      (subst (λ (l : List (ℕ × Object B)). IsBinarySearchResult (λ (e : ℕ × Object B). nat_cmp e.0 k) l r) same_list found))))

  pub missed_in : (es searched : List (ℕ × Object B)) (seen_as : Objects) (k id : ℕ) (r : Result ℕ ℕ) (out : Option ℕ)
      → searched ≡ es → seen_as ≡ map seen_entry es → k ≡ id → out ≡ result_ok r → IsRising (map seen_entry es) → IsSearchInRange r (length searched)
      → IsBinarySearchResult (λ (e : ℕ × Object B). nat_cmp e.0 k) searched r → IfNone out (object_at seen_as id ≡ None)
  missed_in es searched seen_as k id r out same_list view same_id answer rising lt found =
      subst (λ (o : Option ℕ). IfNone o (object_at seen_as id ≡ None)) (sym answer)
      (subst (λ (v : Objects). IfNone (result_ok r) (object_at v id ≡ None)) (sym view)
      (search_missed es id r rising (subst (λ (l : List (ℕ × Object B)). IsSearchInRange r (length l)) same_list lt)
      (subst (λ (n : ℕ). IsBinarySearchResult (λ (e : ℕ × Object B). nat_cmp e.0 n) es r) same_id
      (subst (λ (l : List (ℕ × Object B)). IsBinarySearchResult (λ (e : ℕ × Object B). nat_cmp e.0 k) l r) same_list found))))
