-- Every object with an inclusion is in the store, at an index.
use Rattle.std.proofs.Common.{◌≡◌, ℕ, suc, Bool, true, false, cond, List, [], ◌∷◌, Option, Some, refl, sym, ap, subst}
use Rattle.std.specs.Prelude.{Contains}
use Rattle.std.specs.Ordering.{nat_cmp, is_eq, eq_by_cmp}
use Rattle.std.specs.declared.cmp.Ordering.{Ordering}
use Rattle.std.specs.declared.cmp.Ordering.TheVariants as orderings
use Rattle.vt_kinds.specs.Records.{Seen}
use Rattle.vt_stores.specs.Stores.{Objects, IsRising, ids, object_at, map_of}
use Rattle.vt_chains.specs.Inclusions.{included_by, included}
use Rattle.vt_chains.specs.Depths.{IsIdAt, ids_of, inclusions_of}
use Rattle.vt_stores.proofs.SortedEntries.{three}
use Rattle.vt_stores.proofs.BinarySearch.{is_equal}
use Rattle.vt_stores.proofs.StoreMethods.{entries_from}
use Rattle.vt_chains.proofs.Elements.{Contains-nil, unsome, option_case}

-- each ID with an inclusion is at an index
abbrev pub IsSourced : List ℕ → (ℕ → List ℕ) → Type 0
IsSourced ids included = (id other : ℕ) → Contains (included id) other → (index : ℕ) × IsIdAt ids index id

-- ---- an ID among the entries

equal_by : (o : Ordering) → is_eq o ≡ true → o ≡ orderings.Equal
equal_by orderings.Less is = absurd cc
equal_by orderings.Equal is = refl
equal_by orderings.Greater is = absurd cc

entry_by : (P : Type 0) (e : ℕ × Seen) (rest : Option Seen) (o : Seen) (b : Bool) → cond b (Some e.1) rest ≡ Some o → (b ≡ true → e.1 ≡ o → P) → (rest ≡ Some o → P) → P
entry_by P e rest o true is here later = here refl (ap (unsome o) is)
entry_by P e rest o false is here later = later is

pub entry_case : (P : Type 0) (e : ℕ × Seen) (objects : Objects) (id : ℕ) (o : Seen) → object_at (e ∷ objects) id ≡ Some o
    → (id ≡ e.0 → e.1 ≡ o → P) → (object_at objects id ≡ Some o → P) → P
entry_case P e objects id o is here later =
    entry_by P e (object_at objects id) o (eq_by_cmp nat_cmp id e.0) is
    (λ same is_o. here (is_equal id e.0 (three id e.0) (equal_by (nat_cmp id e.0) same)) is_o) later

-- the ID of an object is at an index
pub stands : (objects : Objects) (id : ℕ) (o : Seen) → object_at objects id ≡ Some o → (index : ℕ) × IsIdAt (ids objects) index id
stands [] id o is = absurd cc
stands (e ∷ objects) id o is =
    entry_case ((index : ℕ) × IsIdAt (ids (e ∷ objects)) index id) e objects id o is
    (λ same is_o. (0, ap Some (sym same)))
    (λ rest. let at = stands objects id o rest in (suc at.0, at.1))

-- an ID with an inclusion has an object
pub object_of : (objects : Objects) (id next : ℕ) → Contains (included objects id) next → (o : Seen) × (object_at objects id ≡ Some o)
object_of objects id next h =
    option_case ((o : Seen) × (object_at objects id ≡ Some o)) (object_at objects id)
    (λ none. absurd (Contains-nil next (subst (λ (o : Option Seen). Contains (included_by o) next) none h)))
    (λ o some. (o, some))

pub index_of : (objects : Objects) (id next : ℕ) → Contains (included objects id) next → (index : ℕ) × IsIdAt (ids objects) index id
index_of objects id next h = let o = object_of objects id next h in stands objects id o.0 o.1

pub sourced : (objects : Objects) → IsSourced (ids objects) (included objects)
sourced objects id other h = index_of objects id other h

pub same_ids : (objects : Objects) → IsRising objects → ids_of (map_of objects) ≡ ids objects
same_ids objects rising = ap ids (entries_from objects rising)

pub same_inclusions : (objects : Objects) → IsRising objects → inclusions_of (map_of objects) ≡ included objects
same_inclusions objects rising = ap included (entries_from objects rising)
