-- The results of a store's methods, and its map after a write.
use Rattle.std.proofs.Common.{◌≡◌, ℕ, zero, suc, ◌<◌, ◌≤◌, Bool, true, false, cond, eqb, List, [], ◌∷◌, length, get_or, set, map, Option, Some, None, refl, sym, ap, subst, ◌∙◌, arith, T}
use Rattle.std.proofs.lemmas.Map.Views.{All-map-IsPermutation}
use Rattle.std.proofs.lemmas.Cmp.{nat_cmp_total}
use Rattle.std.specs.Prelude.{slice_get, IsPermutation, IfSome, IfNone}
use Rattle.std.specs.Option.{option_map}
use Rattle.std.proofs.lemmas.List.Elements.{All-nil, All-cons}
use Rattle.std.proofs.lemmas.Map.Keys.{IsDistinct-cons}
use Rattle.std.specs.List.{All, AllByRecursion, IsDistinct}
use Rattle.std.specs.Ordering.{nat_cmp}
use Rattle.std.proofs.lemmas.Option.{slice_get-map}
use Rattle.std.specs.FinMap as finite
use Rattle.std.specs.FinMap.Entries.{put, is_sorted-put, below_all}
use Rattle.std.specs.declared.cmp.Ordering.TheVariants.{Equal}
use Rattle.vt_kinds.specs.declared.object.Object.{Object}
use Rattle.vt_kinds.specs.Ids.{null_id}
use Rattle.vt_kinds.specs.Records.{Seen, seen}
use Rattle.vt_stores.specs.Stores.{Objects, ObjectMap, AreNamed, AreStored, IsRising, IsPlace, seen_entry, ids, by_rising_id, object_at, map_of, contents_of, with_object, replaced}
use Rattle.vt_stores.proofs.SortedEntries.{T_of, both_true, equal, greater, three, ids_shown, distinct_rising}
use Rattle.vt_stores.proofs.BinarySearch.{other_id, above_at, get_at}

-- ---- the map of objects by rising ID

pub entries_from : (s : Objects) → IsRising s → finite.entries (finite.from_sorted {R = nat_cmp} s) ≡ s
entries_from s rising = finite.entries-from_sorted nat_cmp s (T_of _ rising)

pub get_from : (s : Objects) (q : ℕ) → IsRising s → finite.get (finite.from_sorted {R = nat_cmp} s) q ≡ object_at s q
get_from s q rising = finite.get-from_sorted nat_cmp s q (T_of _ rising)

pub len_from : (s : Objects) → IsRising s → finite.len (finite.from_sorted {R = nat_cmp} s) ≡ length s
len_from s rising = finite.len-entries (finite.from_sorted s) ∙ ap length (entries_from s rising)

-- sorting by ID keeps the map
pub map_of_rising : (s : Objects) → finite.from_sorted {R = nat_cmp} (by_rising_id s) ≡ finite.from_entries s
unfolding by_rising_id
map_of_rising s =
    let m : ObjectMap = finite.from_entries s in
    finite.same_entries_map (finite.from_sorted (finite.entries m)) m (finite.entries-from_sorted nat_cmp (finite.entries m) (finite.entries_sorted m))

-- ---- NULL

none_named : (s : Objects) → All (λ id. id < null_id) (ids s) → object_at s null_id ≡ None
none_named [] all = refl
none_named (e ∷ s) all =
    ap (λ (b : Bool). cond b (Some e.1) (object_at s null_id)) (other_id e.0 null_id (λ is. let lt = all 0 e.0 (omega arith) in absurd (omega (arith, is, lt))) (three null_id e.0))
    ∙ none_named s (λ k d lt. all (suc k) d (omega arith))

pub null_free : (s : Objects) → AreStored s → finite.get (finite.from_sorted {R = nat_cmp} s) null_id ≡ None
null_free s stored = get_from s null_id stored.rising ∙ none_named s stored.named.named

module _ {B : Type 0} where
  -- a permutation of the entries still has no NULL
  pub still_named : (es sorted : List (ℕ × Object B)) → IsPermutation es sorted → AreNamed (map seen_entry es) → IsRising (map seen_entry sorted) → AreStored (map seen_entry sorted)
  still_named es sorted moved named rising =
      let all : All (λ (id : ℕ). id < null_id) (map (λ (e : ℕ × Object B). e.0) es) = subst (All (λ (id : ℕ). id < null_id)) (ids_shown es) named.named in
      record {
        rising = rising;
        named = record {
          distinct = distinct_rising (map seen_entry sorted) rising;
          named = subst (All (λ (id : ℕ). id < null_id)) (sym (ids_shown sorted)) (All-map-IsPermutation (λ (e : ℕ × Object B). e.0) (λ (id : ℕ). id < null_id) es sorted moved all);
        };
      }

  -- the entries' IDs are distinct
  pub distinct_in : (es : List (ℕ × Object B)) → AreNamed (map seen_entry es) → IsDistinct eqb (map (λ e. e.0) es)
  distinct_in es named = subst (IsDistinct eqb) (ids_shown es) named.distinct

  -- ---- a write to one entry

  -- replacing the object of the entry at an index
  pub put_at : (es : List (ℕ × Object B)) (p : ℕ) (x : ℕ × Object B) (w : Object B) → IsRising (map seen_entry es) → p < length es → x ≡ get_or es p x
      → map seen_entry (set es p (x.0, w)) ≡ put nat_cmp x.0 (seen w) (map seen_entry es)
  put_at [] p x w rising lt is = absurd (omega arith)
  put_at (e ∷ es) zero x w rising lt is =
      let same : x.0 ≡ e.0 = ap (λ (y : ℕ × Object B). y.0) is in
      let tied : nat_cmp x.0 e.0 ≡ Equal = subst (λ (k : ℕ). nat_cmp x.0 k ≡ Equal) same (equal x.0) in
      rw tied (ap (λ (k : ℕ). (k, seen w) ∷ map seen_entry es) same)
  put_at (e ∷ es) (suc p) x w rising lt is =
      let parts = both_true (below_all nat_cmp e.0 (map seen_entry es)) (finite.is_sorted nat_cmp (map seen_entry es)) rising in
      let higher : e.0 < x.0 = subst (λ (y : ℕ × Object B). e.0 < y.0) (sym is) (above_at e.0 es p x parts.0 (omega arith)) in
      rw (greater x.0 e.0 higher) (ap (λ (l : Objects). seen_entry e ∷ l) (put_at es p x w parts.1 (omega arith) is))

  pub rising_set : (es : List (ℕ × Object B)) (p : ℕ) (x : ℕ × Object B) (w : Object B) → IsRising (map seen_entry es) → p < length es → x ≡ get_or es p x
      → IsRising (map seen_entry (set es p (x.0, w)))
  rising_set es p x w rising lt is =
      subst IsRising (sym (put_at es p x w rising lt is)) (is_true (finite.is_sorted nat_cmp (put nat_cmp x.0 (seen w) (map seen_entry es))) (is_sorted-put nat_cmp nat_cmp_total x.0 (seen w) (map seen_entry es) (T_of _ rising)))
    where
      is_true : (b : Bool) → T b → b ≡ true
      is_true true t = refl
      is_true false t = absurd t

  ids_set : (es : List (ℕ × Object B)) (p : ℕ) (x : ℕ × Object B) (w : Object B) → x ≡ get_or es p x → ids (map seen_entry (set es p (x.0, w))) ≡ ids (map seen_entry es)
  ids_set [] p x w is = refl
  ids_set (e ∷ es) zero x w is = ap (λ (y : ℕ × Object B). y.0 ∷ ids (map seen_entry es)) is
  ids_set (e ∷ es) (suc p) x w is = ap (λ (l : List ℕ). e.0 ∷ l) (ids_set es p x w is)

  pub stored_set : (es : List (ℕ × Object B)) (p : ℕ) (x : ℕ × Object B) (w : Object B) → AreStored (map seen_entry es) → p < length es → x ≡ get_or es p x
      → AreStored (map seen_entry (set es p (x.0, w)))
  stored_set es p x w stored lt is = record {
    rising = rising_set es p x w stored.rising lt is;
    named = record {
      distinct = subst (IsDistinct eqb) (sym (ids_set es p x w is)) stored.named.distinct;
      named = subst (All (λ (id : ℕ). id < null_id)) (sym (ids_set es p x w is)) stored.named.named;
    };
  }

  pub wrote : (es : List (ℕ × Object B)) (q p : ℕ) (x : ℕ × Object B) (w : Object B) → AreStored (map seen_entry es) → IsPlace (map seen_entry es) q p → p < length es → x ≡ get_or es p x → x.0 ≡ q
      → finite.from_sorted (map seen_entry (set es p (x.0, w))) ≡ with_object (finite.from_sorted (map seen_entry es)) q (seen w)
  wrote es q p x w stored at lt is same =
      let m : ObjectMap = finite.from_sorted (map seen_entry es) in
      let rising = rising_set es p x w stored.rising lt is in
      let inserted : finite.from_sorted (map seen_entry (set es p (x.0, w))) ≡ finite.insert m x.0 (seen w) =
      finite.same_entries_map (finite.from_sorted (map seen_entry (set es p (x.0, w)))) (finite.insert m x.0 (seen w))
      (entries_from (map seen_entry (set es p (x.0, w))) rising
      ∙ put_at es p x w stored.rising lt is
      ∙ sym (finite.entries-insert nat_cmp_total m x.0 (seen w) ∙ ap (put nat_cmp x.0 (seen w)) (entries_from (map seen_entry es) stored.rising))) in
      inserted
      ∙ ap (λ (k : ℕ). finite.insert m k (seen w)) same
      ∙ sym (ap (λ (o : Option Seen). replaced o m q (seen w)) (get_from (map seen_entry es) q stored.rising ∙ at.found))

  pub kept : (es : List (ℕ × Object B)) (q : ℕ) (o : Seen) → AreStored (map seen_entry es) → object_at (map seen_entry es) q ≡ None
      → finite.from_sorted {R = nat_cmp} (map seen_entry es) ≡ with_object (finite.from_sorted (map seen_entry es)) q o
  kept es q o stored none =
      sym (ap (λ (f : Option Seen). replaced f (finite.from_sorted (map seen_entry es)) q o) (get_from (map seen_entry es) q stored.rising ∙ none))

  -- ---- a found index

  pub within_place : (es : List (ℕ × Object B)) (q p : ℕ) → IsPlace (map seen_entry es) q p → p < length es
  within_place es q p at = inside es p at.object at.there
    where
      inside : (es : List (ℕ × Object B)) (p : ℕ) (o : Seen) → slice_get (map seen_entry es) p ≡ Some (q, o) → p < length es
      inside [] p o is = absurd cc
      inside (e ∷ es) zero o is = omega arith
      inside (e ∷ es) (suc p) o is = let lt = inside es p o is in omega arith

  same_shown : (es : List (ℕ × Object B)) (q p : ℕ) (x : ℕ × Object B) (at : IsPlace (map seen_entry es) q p) → x ≡ get_or es p x → seen_entry x ≡ (q, at.object)
  same_shown es q p x at is =
      let e : Some (seen_entry (get_or es p x)) ≡ Some (q, at.object) = sym (get_at es p x (within_place es q p at)) ∙ at.there in
      let f : seen_entry (get_or es p x) ≡ (q, at.object) = cc in
      ap seen_entry is ∙ f

  pub id_at_place : (es : List (ℕ × Object B)) (q p : ℕ) (x : ℕ × Object B) → IsPlace (map seen_entry es) q p → x ≡ get_or es p x → x.0 ≡ q
  id_at_place es q p x at is = ap (λ (e : ℕ × Seen). e.0) (same_shown es q p x at is)

  pub object_at_place : (es : List (ℕ × Object B)) (q p : ℕ) (x : ℕ × Object B) → IsPlace (map seen_entry es) q p → x ≡ get_or es p x → Some (seen x.1) ≡ object_at (map seen_entry es) q
  object_at_place es q p x at is = ap (λ (e : ℕ × Seen). Some e.1) (same_shown es q p x at is) ∙ sym at.found

  -- ---- the results of a store's lookups

  -- an index found in equal entries
  pub placed : (es searched : List (ℕ × Object B)) (q p : ℕ) → searched ≡ es → IsPlace (map seen_entry searched) q p → IsPlace (map seen_entry es) q p
  placed es searched q p same at = subst (λ (l : List (ℕ × Object B)). IsPlace (map seen_entry l) q p) same at

  pub absent : (es searched : List (ℕ × Object B)) (q : ℕ) → searched ≡ es → object_at (map seen_entry searched) q ≡ None → object_at (map seen_entry es) q ≡ None
  absent es searched q same none = subst (λ (l : List (ℕ × Object B)). object_at (map seen_entry l) q ≡ None) same none

  pub got_none : (es : List (ℕ × Object B)) (s : Objects) (q : ℕ) → map seen_entry es ≡ s → AreStored (map seen_entry es) → object_at (map seen_entry es) q ≡ None → None ≡ finite.get (map_of s) q
  got_none es s q view stored none = subst (λ (t : Objects). None ≡ finite.get (map_of t) q) view (sym (get_from (map seen_entry es) q stored.rising ∙ none))

  pub found_none : (es : List (ℕ × Object B)) (s : Objects) (q : ℕ) → map seen_entry es ≡ s → object_at (map seen_entry es) q ≡ None → None ≡ object_at s q
  found_none es s q view none = subst (λ (t : Objects). None ≡ object_at t q) view (sym none)

  pub got_some : (es : List (ℕ × Object B)) (s : Objects) (q p : ℕ) (x : ℕ × Object B) → map seen_entry es ≡ s → AreStored (map seen_entry es) → IsPlace (map seen_entry es) q p → x ≡ get_or es p x
      → Some (seen x.1) ≡ finite.get (map_of s) q
  got_some es s q p x view stored at is =
      subst (λ (t : Objects). Some (seen x.1) ≡ finite.get (map_of t) q) view (object_at_place es q p x at is ∙ sym (get_from (map seen_entry es) q stored.rising))

  pub found_some : (es : List (ℕ × Object B)) (s : Objects) (q p : ℕ) (x : ℕ × Object B) → map seen_entry es ≡ s → IsPlace (map seen_entry es) q p → x ≡ get_or es p x → Some (seen x.1) ≡ object_at s q
  found_some es s q p x view at is = subst (λ (t : Objects). Some (seen x.1) ≡ object_at t q) view (object_at_place es q p x at is)

  pub named_in : (es : List (ℕ × Object B)) (s : Objects) → map seen_entry es ≡ s → AreStored (map seen_entry es) → All (λ id. id < null_id) (ids (finite.entries (map_of s)))
  named_in es s view stored =
      let is = subst AreStored view stored in
      subst (λ (objects : Objects). All (λ id. id < null_id) (ids objects)) (sym (entries_from s is.rising)) is.named.named

  pub null_free_in : (es : List (ℕ × Object B)) (s : Objects) → map seen_entry es ≡ s → AreStored (map seen_entry es) → finite.get (map_of s) null_id ≡ None
  null_free_in es s view stored = null_free s (subst AreStored view stored)

  length_shown : (es : List (ℕ × Object B)) → length (map seen_entry es) ≡ length es
  length_shown [] = refl
  length_shown (e ∷ es) = ap suc (length_shown es)

  pub counted : (es : List (ℕ × Object B)) (s : Objects) → map seen_entry es ≡ s → AreStored (map seen_entry es) → length es ≡ finite.len (map_of s)
  counted es s view stored =
      sym (length_shown es) ∙ sym (len_from (map seen_entry es) stored.rising) ∙ ap (λ (t : Objects). finite.len (map_of t)) view

  pub entries_in : (es : List (ℕ × Object B)) (s : Objects) → map seen_entry es ≡ s → AreStored (map seen_entry es) → finite.entries (map_of s) ≡ map seen_entry es
  entries_in es s view stored = ap (λ (t : Objects). finite.entries (map_of t)) (sym view) ∙ entries_from (map seen_entry es) stored.rising

  pub entry_none : (es : List (ℕ × Object B)) (s : Objects) (p : ℕ) → map seen_entry es ≡ s → AreStored (map seen_entry es) → slice_get es p ≡ None
      → None ≡ slice_get (finite.entries (map_of s)) p
  entry_none es s p view stored none =
      sym (ap (λ (l : Objects). slice_get l p) (entries_in es s view stored) ∙ slice_get-map seen_entry es p ∙ ap (option_map seen_entry) none)

  pub entry_some : (es : List (ℕ × Object B)) (s : Objects) (p : ℕ) (x : ℕ × Object B) → map seen_entry es ≡ s → AreStored (map seen_entry es) → slice_get es p ≡ Some x
      → Some (seen_entry x) ≡ slice_get (finite.entries (map_of s)) p
  entry_some es s p x view stored is =
      sym (ap (λ (l : Objects). slice_get l p) (entries_in es s view stored) ∙ slice_get-map seen_entry es p ∙ ap (option_map seen_entry) is)

  pub place_some : (es : List (ℕ × Object B)) (s : Objects) (q : ℕ) (o : Option ℕ) → map seen_entry es ≡ s → AreStored (map seen_entry es)
      → IfSome o (IsPlace (map seen_entry es) q) → IfSome o (IsPlace (finite.entries (map_of s)) q)
  place_some es s q o view stored at = subst (λ (l : Objects). IfSome o (IsPlace l q)) (sym (entries_in es s view stored)) at

  pub place_in : (es searched : List (ℕ × Object B)) (q : ℕ) (o : Option ℕ) → searched ≡ es → IfSome o (IsPlace (map seen_entry searched) q) → IfSome o (IsPlace (map seen_entry es) q)
  place_in es searched q o same at = subst (λ (l : List (ℕ × Object B)). IfSome o (IsPlace (map seen_entry l) q)) same at

  pub place_none : (es searched : List (ℕ × Object B)) (s : Objects) (q : ℕ) (o : Option ℕ) → searched ≡ es → map seen_entry es ≡ s → AreStored (map seen_entry es)
      → IfNone o (object_at (map seen_entry searched) q ≡ None) → IfNone o (finite.get (map_of s) q ≡ None)
  place_none es searched s q (Some p) same view stored none = tt
  place_none es searched s q None same view stored none = sym (got_none es s q view stored (absent es searched q same none))

  none_past : (es : List (ℕ × Object B)) (p : ℕ) → length es ≤ p → slice_get es p ≡ None
  none_past [] p le = refl
  none_past (e ∷ es) zero le = absurd (omega arith)
  none_past (e ∷ es) (suc p) le = none_past es p (omega arith)

  some_within : (es : List (ℕ × Object B)) (p : ℕ) (x : ℕ × Object B) → p < length es → x ≡ get_or es p x → slice_get es p ≡ Some x
  some_within [] p x lt is = absurd (omega arith)
  some_within (e ∷ es) zero x lt is = ap (λ (y : ℕ × Object B). Some y) (sym is)
  some_within (e ∷ es) (suc p) x lt is = some_within es p x (omega arith) is

  pub entry_past : (es searched : List (ℕ × Object B)) (s : Objects) (p : ℕ) → searched ≡ es → map seen_entry es ≡ s → AreStored (map seen_entry es) → length searched ≤ p
      → None ≡ slice_get (finite.entries (map_of s)) p
  entry_past es searched s p same view stored le =
      entry_none es s p view stored (subst (λ (l : List (ℕ × Object B)). slice_get l p ≡ None) same (none_past searched p le))

  pub entry_within : (es searched : List (ℕ × Object B)) (s : Objects) (p : ℕ) (x : ℕ × Object B) → searched ≡ es → map seen_entry es ≡ s → AreStored (map seen_entry es) → p < length searched
      → x ≡ get_or searched p x → Some (seen_entry x) ≡ slice_get (finite.entries (map_of s)) p
  entry_within es searched s p x same view stored lt is =
      entry_some es s p x view stored (subst (λ (l : List (ℕ × Object B)). slice_get l p ≡ Some x) same (some_within searched p x lt is))

  -- ---- the construction of a store

  pub made_of : (es copies xs : List (ℕ × Object B)) → map seen_entry es ≡ by_rising_id (map seen_entry copies) → map seen_entry copies ≡ map seen_entry xs → map_of (map seen_entry es) ≡ contents_of xs
  made_of es copies xs sorted same = ap map_of sorted ∙ map_of_rising (map seen_entry copies) ∙ ap (λ (t : Objects). finite.from_entries {R = nat_cmp} t) same

  -- ---- a write, seen as the store's objects

  pub wrote_in : (es : List (ℕ × Object B)) (s : Objects) (q p : ℕ) (x : ℕ × Object B) (w : Object B) → map seen_entry es ≡ s → AreStored (map seen_entry es) → IsPlace (map seen_entry es) q p → x ≡ get_or es p x
      → map_of (map seen_entry (set es p (x.0, w))) ≡ with_object (map_of s) q (seen w)
  wrote_in es s q p x w view stored at is =
      wrote es q p x w stored at (within_place es q p at) is (id_at_place es q p x at is)
      ∙ ap (λ (t : Objects). with_object (map_of t) q (seen w)) view

  pub kept_in : (es : List (ℕ × Object B)) (s : Objects) (q : ℕ) (o : Seen) → map seen_entry es ≡ s → AreStored (map seen_entry es) → object_at (map seen_entry es) q ≡ None
      → map_of (map seen_entry es) ≡ with_object (map_of s) q o
  kept_in es s q o view stored none = kept es q o stored none ∙ ap (λ (t : Objects). with_object (map_of t) q o) view

-- ---- entries with distinct IDs, built one by one

pub named_none : AreNamed []
unfolding IsDistinct
named_none = record { distinct = tt; named = All-nil (λ (id : ℕ). id < null_id) }

pub named_more : (x : ℕ × Seen) (s : Objects) → x.0 < null_id → AllByRecursion (λ k. eqb x.0 k ≡ false) (ids s) → AreNamed s → AreNamed (x ∷ s)
named_more x s lt other named = record {
  distinct = IsDistinct-cons eqb x.0 (ids s) other named.distinct;
  named = All-cons (λ (id : ℕ). id < null_id) x.0 (ids s) lt named.named;
}
