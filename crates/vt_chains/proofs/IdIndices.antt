-- The IDs of a store by their indices.
use Rattle.std.proofs.Common.{◌≡◌, ℕ, zero, suc, ◌<◌, Bool, true, false, cond, List, [], ◌∷◌, length, Option, Some, None, refl, sym, ap, subst, ◌∙◌, arith, T}
use Rattle.std.proofs.lemmas.List.{length-map}
use Rattle.std.proofs.lemmas.Option.{slice_get-map, slice_get_within, same_Some}
use Rattle.std.specs.Prelude.{slice_get, IsTrue}
use Rattle.std.specs.Option.{option_map}
use Rattle.std.specs.Ordering.{nat_cmp, is_lt, is_eq}
use Rattle.std.specs.declared.cmp.Ordering.{Ordering}
use Rattle.std.specs.FinMap as finite
use Rattle.std.specs.FinMap.Entries.{below_all}
use Rattle.vt_kinds.specs.Records.{Seen}
use Rattle.vt_stores.specs.Stores.{Objects, ObjectMap, IsRising, ids, object_at}
use Rattle.vt_stores.proofs.SortedEntries.{three, both_true, equal, greater}
use Rattle.vt_stores.proofs.BinarySearch.{is_below}
use Rattle.vt_chains.specs.Depths.{ids_of, IsIdAt}

true_of : (b : Bool) → T b → b ≡ true
true_of true t = refl
true_of false t = absurd t

pub rising : (m : ObjectMap) → IsRising (finite.entries m)
rising m = true_of (finite.is_sorted nat_cmp (finite.entries m)) (finite.entries_sorted m)

-- ---- the ID and the object at an index

pub stands_of : (objects : Objects) (index id : ℕ) (o : Seen) → slice_get objects index ≡ Some (id, o) → IsIdAt (ids objects) index id
stands_of objects index id o is = slice_get-map (λ (e : ℕ × Seen). e.0) objects index ∙ ap (option_map (λ (e : ℕ × Seen). e.0)) is

object_case : (P : Type 0) (o : Option (ℕ × Seen)) (id : ℕ) → option_map (λ (e : ℕ × Seen). e.0) o ≡ Some id → ((s : Seen) → o ≡ Some (id, s) → P) → P
object_case P None id is here = absurd cc
object_case P (Some e) id is here = here e.1 (ap (λ (k : ℕ). Some (k, e.1)) (same_Some e.0 id is))

-- the object at the index of an ID
pub object_of : (objects : Objects) (index id : ℕ) → IsIdAt (ids objects) index id → (o : Seen) × (slice_get objects index ≡ Some (id, o))
object_of objects index id is =
    object_case ((o : Seen) × (slice_get objects index ≡ Some (id, o))) (slice_get objects index) id (sym (slice_get-map (λ (e : ℕ × Seen). e.0) objects index) ∙ is)
    (λ o some. (o, some))

pub above_at : (a : ℕ) (objects : Objects) (index id : ℕ) → IsTrue (below_all nat_cmp a objects) → IsIdAt (ids objects) index id → a < id
above_at a [] index id all is = absurd cc
above_at a (e ∷ objects) zero id all is =
    subst (λ (k : ℕ). a < k) (same_Some e.0 id is) (is_below a e.0 (three a e.0) (both_true (is_lt (nat_cmp a e.0)) (below_all nat_cmp a objects) all).0)
above_at a (e ∷ objects) (suc index) id all is = above_at a objects index id (both_true (is_lt (nat_cmp a e.0)) (below_all nat_cmp a objects) all).1 is

pub found_at : (objects : Objects) (index id : ℕ) (o : Seen) → IsRising objects → slice_get objects index ≡ Some (id, o) → object_at objects id ≡ Some o
found_at [] index id o rising is = absurd cc
found_at (e ∷ objects) zero id o rising is =
    let same = same_Some e (id, o) is in
    ap (λ (d : Ordering). cond (is_eq d) (Some e.1) (object_at objects id)) (ap (λ (x : ℕ × Seen). nat_cmp id x.0) same ∙ equal id) ∙ ap (λ (x : ℕ × Seen). Some x.1) same
found_at (e ∷ objects) (suc index) id o rising is =
    let parts = both_true (below_all nat_cmp e.0 objects) (finite.is_sorted nat_cmp objects) rising in
    ap (λ (d : Ordering). cond (is_eq d) (Some e.1) (object_at objects id)) (greater id e.0 (above_at e.0 objects index id parts.0 (stands_of objects index id o is)))
    ∙ found_at objects index id o parts.1 is

-- the index of an ID is unique
pub one_place : (objects : Objects) (a b id : ℕ) → IsRising objects → IsIdAt (ids objects) a id → IsIdAt (ids objects) b id → a ≡ b
one_place [] a b id rising one other = absurd cc
one_place (e ∷ objects) zero zero id rising one other = refl
one_place (e ∷ objects) zero (suc b) id rising one other =
    let parts = both_true (below_all nat_cmp e.0 objects) (finite.is_sorted nat_cmp objects) rising in
    let lt = above_at e.0 objects b id parts.0 other in
    let same = same_Some e.0 id one in
    absurd (omega (arith, lt, same))
one_place (e ∷ objects) (suc a) zero id rising one other =
    let parts = both_true (below_all nat_cmp e.0 objects) (finite.is_sorted nat_cmp objects) rising in
    let lt = above_at e.0 objects a id parts.0 one in
    let same = same_Some e.0 id other in
    absurd (omega (arith, lt, same))
one_place (e ∷ objects) (suc a) (suc b) id rising one other =
    ap suc (one_place objects a b id (both_true (below_all nat_cmp e.0 objects) (finite.is_sorted nat_cmp objects) rising).1 one other)

-- ---- indices in a store

pub get_placed : (m : ObjectMap) (index id : ℕ) (o : Seen) → slice_get (finite.entries m) index ≡ Some (id, o) → finite.get m id ≡ Some o
get_placed m index id o is = finite.get-entries m id ∙ found_at (finite.entries m) index id o (rising m) is

pub missing_nowhere : (m : ObjectMap) (index id : ℕ) → IsIdAt (ids_of m) index id → finite.get m id ≡ None → ⊥
missing_nowhere m index id is none =
    let o = object_of (finite.entries m) index id is in
    let some = sym none ∙ get_placed m index id o.0 o.1 in
    absurd cc

pub once : (m : ObjectMap) (a b id : ℕ) → IsIdAt (ids_of m) a id → IsIdAt (ids_of m) b id → a ≡ b
once m a b id one other = one_place (finite.entries m) a b id (rising m) one other

pub within : (ids : List ℕ) (index id : ℕ) → IsIdAt ids index id → index < length ids
within ids index id is = slice_get_within ids index id is

-- each index has an ID
pub someone : (ids : List ℕ) (index : ℕ) → index < length ids → (id : ℕ) × IsIdAt ids index id
someone [] index lt = absurd (omega arith)
someone (id ∷ ids) zero lt = (id, refl)
someone (id ∷ ids) (suc index) lt = someone ids index (omega arith)

pub same_id : (ids : List ℕ) (index a b : ℕ) → IsIdAt ids index a → IsIdAt ids index b → a ≡ b
same_id ids index a b one other = same_Some a b (sym one ∙ other)

-- the number of IDs is the number of objects
pub count_is : (m : ObjectMap) → finite.len m ≡ length (ids_of m)
count_is m = finite.len-entries m ∙ sym (length-map (finite.entries m) (λ (e : ℕ × Seen). e.0))
