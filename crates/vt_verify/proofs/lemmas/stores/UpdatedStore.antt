-- The objects of an update and the other objects of a store make the updated store.
use Rattle.std.proofs.Common.{◌≡◌, ℕ, zero, suc, ◌+◌, ◌<◌, ◌≤◌, Bool, true, false, cond, eqb, List, [], ◌∷◌, ◌++◌, take, length, Option, Some, None, refl, sym, ap, ap₂, subst, ◌∙◌, arith, inl, inr}
use Rattle.std.proofs.lemmas.Bool.{cases_eq, ne_eqb, or_from}
use Rattle.std.proofs.lemmas.Cmp.{nat_cmp_total}
use Rattle.std.proofs.lemmas.List.{map-append, take_all}
use Rattle.std.proofs.lemmas.List.Elements.{All-push}
use Rattle.std.proofs.lemmas.Option.{get_or_from_slice_get, same_Some}
use Rattle.std.proofs.lemmas.Map.Keys.{IsDistinct-push}
use Rattle.std.specs.Cmp.{nat_eq_equiv}
use Rattle.std.specs.Prelude.{slice_get}
use Rattle.std.specs.List.{All, IsDistinct, list_any}
use Rattle.std.specs.Ordering.{nat_cmp, is_eq, eq_by_cmp}
use Rattle.std.specs.declared.cmp.Ordering.{Ordering}
use Rattle.std.specs.FinMap as finite
use Rattle.std.specs.FinMap.Entries.{below_all, find-append}
use Rattle.vt_kinds.specs.Ids.{null_id}
use Rattle.vt_kinds.specs.Records.{Seen}
use Rattle.vt_stores.specs.Stores.{Objects, ObjectMap, AreNamed, IsRising, ids, object_at, by_rising_id}
use Rattle.vt_stores.proofs.SortedEntries.{three, both_true, equal, greater}
use Rattle.vt_stores.proofs.BinarySearch.{other_id}
use Rattle.vt_verify.specs.Updates.{updated, or_else, unless, UpdatesReplace}
use Rattle.vt_pool.specs.Pools.{contents}
use Rattle.vt_chains.specs.Depths.{IsIdAt, ids_of}
use Rattle.vt_chains.proofs.IdIndices.{rising, above_at, stands_of, object_of, get_placed, within}

-- ---- lookups in joined lists

or_case : {A : Type 0} (b : Bool) (x : A) (later rest : Option A) → cond b (Some x) (or_else later rest) ≡ or_else (cond b (Some x) later) rest
or_case true x later rest = refl
or_case false x later rest = refl

pub found_joined : (a b : Objects) (q : ℕ) → object_at (a ++ b) q ≡ or_else (object_at a q) (object_at b q)
found_joined [] b q = refl
found_joined (e ∷ a) b q =
    ap (λ (o : Option Seen). cond (eq_by_cmp nat_cmp q e.0) (Some e.1) o) (found_joined a b q)
    ∙ or_case (eq_by_cmp nat_cmp q e.0) e.1 (object_at a q) (object_at b q)

pub replaces : UpdatesReplace
unfolding by_rising_id
replaces m update id =
    let all = update ++ finite.entries m in
    sym (finite.get-entries (finite.from_entries {R = nat_cmp} all) id) ∙ finite.get-from_entries nat_cmp_total all id ∙ found_joined update (finite.entries m) id
    ∙ ap (or_else (object_at update id)) (sym (finite.get-entries m id))

-- ---- one more entry of the store

take_one : {A : Type 0} (es : List A) (place : ℕ) (e : A) → slice_get es place ≡ Some e → take (place + 1) es ≡ take place es ++ e ∷ []
take_one [] place e is = absurd cc
take_one (x ∷ es) zero e is = ap (λ (y : _). y ∷ []) (same_Some x e is)
take_one (x ∷ es) (suc place) e is =
    let one : suc place + 1 ≡ suc (place + 1) = omega arith in
    ap (λ (n : ℕ). take n (x ∷ es)) one ∙ ap (λ (l : List _). x ∷ l) (take_one es place e is)

none_before : (es : Objects) (place id : ℕ) (o : Seen) → IsRising es → slice_get es place ≡ Some (id, o) → object_at (take place es) id ≡ None
none_before [] place id o up is = absurd cc
none_before (e ∷ es) zero id o up is = refl
none_before (e ∷ es) (suc place) id o up is =
    let both = both_true (below_all nat_cmp e.0 es) (finite.is_sorted nat_cmp es) up in
    ap (λ (d : Ordering). cond (is_eq d) (Some e.1) (object_at (take place es) id)) (greater id e.0 (above_at e.0 es place id both.0 (stands_of es place id o is)))
    ∙ none_before es place id o both.1 is

pushed_at : (es : Objects) (id : ℕ) (o : Seen) (q : ℕ) → object_at es id ≡ None → object_at (es ++ (id, o) ∷ []) q ≡ cond (eq_by_cmp nat_cmp q id) (Some o) (object_at es q)
pushed_at es id o q none = find-append nat_cmp nat_cmp_total es id o q none

-- ---- distinct IDs

entry_case : (b : Bool) (o : Seen) (rest : Option Seen) → cond b (Some o) rest ≡ None → (b ≡ false) × (rest ≡ None)
entry_case true o rest none = absurd cc
entry_case false o rest none = (refl, none)

other_by : (id e : ℕ) → eq_by_cmp nat_cmp id e ≡ false → eqb id e ≡ false
other_by id e differs = ne_eqb id e (λ same. let alike : eq_by_cmp nat_cmp id e ≡ true = ap (λ (k : ℕ). is_eq (nat_cmp id k)) (sym same) ∙ ap is_eq (equal id) in let never = sym differs ∙ alike in absurd cc)

not_among : (es : Objects) (id : ℕ) → object_at es id ≡ None → list_any (eqb id) (ids es) ≡ false
not_among [] id none = refl
not_among (e ∷ es) id none =
    let both = entry_case (eq_by_cmp nat_cmp id e.0) e.1 (object_at es id) none in
    or_from (eqb id e.0) (list_any (eqb id) (ids es)) (other_by id e.0 both.0) (not_among es id both.1)

pub named_more : (es : Objects) (id : ℕ) (o : Seen) → AreNamed es → object_at es id ≡ None → id < null_id → AreNamed (es ++ (id, o) ∷ [])
named_more es id o named none lt =
    let same = map-append (λ (e : ℕ × Seen). e.0) es ((id, o) ∷ []) in
    record {
      distinct = subst (IsDistinct eqb) (sym same) (IsDistinct-push nat_eq_equiv (ids es) id named.distinct (not_among es id none));
      named = subst (All (λ (k : ℕ). k < null_id)) (sym same) (All-push (λ (k : ℕ). k < null_id) (ids es) id named.named lt);
    }

-- ---- the objects made so far

pub record IsUpdating (m : ObjectMap) (update made : Objects) (place : ℕ) : Type 0 where
  pub named : AreNamed made
  pub looks : (q : ℕ) → object_at made q ≡ or_else (object_at update q) (object_at (take place (finite.entries m)) q)

or_none : {A : Type 0} (o : Option A) → o ≡ or_else o None
or_none None = refl
or_none (Some x) = refl

pub updating_begins : (m : ObjectMap) (update : Objects) → AreNamed update → IsUpdating m update update 0
updating_begins m update named = record { named = named; looks = λ q. or_none (object_at update q) }

push_case : (b : Bool) (o : Seen) (u made_q took : Option Seen) → (b ≡ true → u ≡ None) → made_q ≡ or_else u took
    → cond b (Some o) made_q ≡ or_else u (cond b (Some o) took)
push_case true o u made_q took none is = ap (λ (x : Option Seen). or_else x (Some o)) (sym (none refl))
push_case false o u made_q took none is = is

skip_case : (b : Bool) (o : Seen) (u made_q took : Option Seen) → (b ≡ true → (w : Seen) × (u ≡ Some w)) → made_q ≡ or_else u took
    → made_q ≡ or_else u (cond b (Some o) took)
skip_case true o u made_q took some is =
    let w = some refl in
    is ∙ ap (λ (x : Option Seen). or_else x took) w.1 ∙ sym (ap (λ (x : Option Seen). or_else x (Some o)) w.1)
skip_case false o u made_q took some is = is

same_by : (q id : ℕ) → eq_by_cmp nat_cmp q id ≡ true → q ≡ id
same_by q id alike = elim (cases_eq q id) [
  | inl same ↦ same
  | inr apart ↦ let never = sym alike ∙ other_id id q (λ e. apart (sym e)) (three q id) in absurd cc
]

module _ (m : ObjectMap) (update made : Objects) (place id : ℕ) (o : Seen) (there : slice_get (finite.entries m) place ≡ Some (id, o)) (is : IsUpdating m update made place) where
  took : (q : ℕ) → object_at (take (place + 1) (finite.entries m)) q ≡ cond (eq_by_cmp nat_cmp q id) (Some o) (object_at (take place (finite.entries m)) q)
  took q =
      ap (λ (es : Objects). object_at es q) (take_one (finite.entries m) place (id, o) there)
      ∙ pushed_at (take place (finite.entries m)) id o q (none_before (finite.entries m) place id o (rising m) there)

  pub updating_more : object_at update id ≡ None → id < null_id → IsUpdating m update (made ++ (id, o) ∷ []) (place + 1)
  updating_more none lt =
      let nowhere : object_at made id ≡ None = is.looks id ∙ ap₂ (λ (x y : Option Seen). or_else x y) none (none_before (finite.entries m) place id o (rising m) there) in
      record {
        named = named_more made id o is.named nowhere lt;
        looks = λ q. pushed_at made id o q nowhere
            ∙ push_case (eq_by_cmp nat_cmp q id) o (object_at update q) (object_at made q) (object_at (take place (finite.entries m)) q)
            (λ alike. ap (object_at update) (same_by q id alike) ∙ none) (is.looks q)
            ∙ ap (or_else (object_at update q)) (sym (took q));
      }

  pub updating_passes : (u : Seen) → object_at update id ≡ Some u → IsUpdating m update made (place + 1)
  updating_passes u some = record {
    named = is.named;
    looks = λ q. skip_case (eq_by_cmp nat_cmp q id) o (object_at update q) (object_at made q) (object_at (take place (finite.entries m)) q)
        (λ alike. (u, ap (object_at update) (same_by q id alike) ∙ some)) (is.looks q)
        ∙ ap (or_else (object_at update q)) (sym (took q));
  }

-- the next entry of the store is appended, unless the update has its ID
unless_case : (m : ObjectMap) (update made next : Objects) (place id : ℕ) (o : Seen) (found : Option Seen) → slice_get (finite.entries m) place ≡ Some (id, o) → id < null_id
    → object_at update id ≡ found → next ≡ unless found made id o → IsUpdating m update made place → IsUpdating m update next (place + 1)
unless_case m update made next place id o None there lt looks becomes is =
    subst (λ (l : Objects). IsUpdating m update l (place + 1)) (sym becomes) (updating_more m update made place id o there is looks lt)
unless_case m update made next place id o (Some u) there lt looks becomes is =
    subst (λ (l : Objects). IsUpdating m update l (place + 1)) (sym becomes) (updating_passes m update made place id o there is u looks)

there_of : (m : ObjectMap) (place id : ℕ) (o : Seen) → IsIdAt (ids_of m) place id → finite.get m id ≡ Some o → slice_get (finite.entries m) place ≡ Some (id, o)
there_of m place id o stands is =
    let at = object_of (finite.entries m) place id stands in
    let same = same_Some at.0 o (sym (get_placed m place id at.0 at.1) ∙ is) in
    at.1 ∙ ap (λ (x : Seen). Some (id, x)) same

below_null : (list : List ℕ) (place id : ℕ) → All (λ (k : ℕ). k < null_id) list → IsIdAt list place id → id < null_id
below_null list place id all stands =
    subst (λ (k : ℕ). k < null_id) (get_or_from_slice_get list place id 0 stands) (all place 0 (within list place id stands))

pub updating_step : (m : ObjectMap) (update made next : Objects) (place id : ℕ) (o : Seen) → IsIdAt (ids_of m) place id → finite.get m id ≡ Some o
    → All (λ (k : ℕ). k < null_id) (ids_of m) → next ≡ unless (finite.get (contents update) id) made id o
    → IsUpdating m update made place → IsUpdating m update next (place + 1)
updating_step m update made next place id o stands there all becomes is =
    unless_case m update made next place id o (finite.get (contents update) id) (there_of m place id o stands there) (below_null (ids_of m) place id all stands)
    (sym (finite.get-from_entries nat_cmp_total update id)) becomes is

pub updating_ends : (m : ObjectMap) (update made : Objects) (place : ℕ) → length (finite.entries m) ≤ place → IsUpdating m update made place → by_rising_id made ≡ updated m update
unfolding by_rising_id
updating_ends m update made place end is =
    let all = update ++ finite.entries m in
    let same : finite.from_entries {R = nat_cmp} made ≡ finite.from_entries all =
    finite.same_map nat_cmp_total finite.nat_cmp-IsAntisymmetric (finite.from_entries made) (finite.from_entries all)
    (λ q. finite.get-from_entries nat_cmp_total made q ∙ is.looks q
    ∙ ap (λ (es : Objects). or_else (object_at update q) (object_at es q)) (take_all place (finite.entries m) end)
    ∙ sym (found_joined update (finite.entries m) q) ∙ sym (finite.get-from_entries nat_cmp_total all q)) in
    ap finite.entries same
