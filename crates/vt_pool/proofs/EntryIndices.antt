-- The index of an ID in a list of entries, and lookups and replacements there.
use Rattle.std.proofs.Common.{◌≡◌, ℕ, suc, ◌+◌, ◌<◌, ◌≤◌, Bool, true, false, cond, eqb, ltb, ◌||◌, not, List, [], ◌∷◌, ◌++◌, length, get_or, set, map, Option, Some, None, refl, sym, ap, subst, ◌∙◌, arith}
use Rattle.std.specs.List.{list_any, position_or_len, position}
use Rattle.std.proofs.lemmas.Bool.{eqb-true, false≢true, ltb-true, ltb-false}
use Rattle.std.proofs.lemmas.List.{length-map, get_or-map, map-set, map_push}
use Rattle.std.specs.Ordering.{nat_cmp}
use Rattle.std.specs.Cmp.{unsigned_tied, nat_cmp_total}
use Rattle.std.specs.FinMap as finite
use Rattle.vt_kinds.specs.declared.object.Object.{Object}
use Rattle.vt_kinds.specs.Records.{Seen, seen}
use Rattle.vt_stores.specs.Stores.{seen_entry}
use Rattle.vt_pool.specs.Pools.{PoolEntry, ids, contents}
use Rattle.vt_pool.specs.EntryWrites.{with_entry}

-- the object of an ID in a list
abbrev pub entry_at : List PoolEntry → ℕ → Option Seen
entry_at [] q = None
entry_at (e ∷ es) q = cond (eqb q e.0) (Some e.1) (entry_at es q)

find_entry : (es : List PoolEntry) (q : ℕ) → finite.find nat_cmp q es ≡ entry_at es q
find_entry [] q = refl
find_entry (e ∷ es) q =
    ap (λ b. cond b (Some e.1) (finite.find nat_cmp q es)) (unsigned_tied q e.0)
    ∙ ap (cond (eqb q e.0) (Some e.1)) (find_entry es q)

pub get-contents : (es : List PoolEntry) (q : ℕ) → finite.get (contents es) q ≡ entry_at es q
get-contents es q = finite.get-from_entries nat_cmp_total es q ∙ find_entry es q

-- ---- the first index of an ID

abbrev pub place_of : ℕ → List PoolEntry → ℕ
place_of q es = position_or_len (eqb q) (ids es)

at_cases : (b : Bool) (q : ℕ) (e : PoolEntry) (es : List PoolEntry) (d : PoolEntry) → cond (not b) (1 + place_of q es) 0 < suc (length es)
    → (place_of q es < length es → entry_at es q ≡ Some (get_or es (place_of q es) d).1)
    → cond b (Some e.1) (entry_at es q) ≡ Some (get_or (e ∷ es) (cond (not b) (1 + place_of q es) 0) d).1
at_cases true q e es d lt later = refl
at_cases false q e es d lt later =
    let next : 1 + place_of q es ≡ suc (place_of q es) = omega arith in
    rw next (later (omega arith))

pub entry_there : (q : ℕ) (es : List PoolEntry) (d : PoolEntry) → place_of q es < length es → entry_at es q ≡ Some (get_or es (place_of q es) d).1
entry_there q [] d lt = absurd (omega arith)
entry_there q (e ∷ es) d lt = at_cases (eqb q e.0) q e es d lt (entry_there q es d)

none_cases : (b : Bool) (q : ℕ) (e : PoolEntry) (es : List PoolEntry) → suc (length es) ≤ cond (not b) (1 + place_of q es) 0
    → (length es ≤ place_of q es → entry_at es q ≡ None) → cond b (Some e.1) (entry_at es q) ≡ None
none_cases true q e es le later = absurd (omega arith)
none_cases false q e es le later = later (omega arith)

pub entry_nowhere : (q : ℕ) (es : List PoolEntry) → length es ≤ place_of q es → entry_at es q ≡ None
entry_nowhere q [] le = refl
entry_nowhere q (e ∷ es) le = none_cases (eqb q e.0) q e es le (entry_nowhere q es)

some_place : (b : Bool) (k n i : ℕ) → ltb k n ≡ b → cond b (Some k) None ≡ Some i → (k ≡ i) × (i < n)
some_place true k n i is e =
    let same : k ≡ i = cc in
    let lt = ltb-true k n is in
    (same, omega arith)
some_place false k n i is e = absurd cc

no_place : (b : Bool) (k n : ℕ) → ltb k n ≡ b → ◌≡◌ {A = Option ℕ} (cond b (Some k) None) None → n ≤ k
no_place true k n is e = absurd cc
no_place false k n is e = ltb-false k n is

position_some : {X : Type 0} (p : X → Bool) (xs : List X) (i : ℕ) → position p xs ≡ Some i → (position_or_len p xs ≡ i) × (i < length xs)
position_some p xs i e = some_place (ltb (position_or_len p xs) (length xs)) (position_or_len p xs) (length xs) i refl e

-- ---- the result of a lookup

pub got_none : {B : Type 0} (q : ℕ) (items : List (ℕ × Object B)) (keys : List ℕ) → keys ≡ ids (map seen_entry items) → position (eqb q) keys ≡ None
    → ◌≡◌ {A = Option Seen} None (finite.get (contents (map seen_entry items)) q)
got_none q items keys same none =
    let es = map seen_entry items in
    let past : length keys ≤ position_or_len (eqb q) keys = no_place _ _ _ refl none in
    let moved : length (ids es) ≤ place_of q es = subst (λ (l : List ℕ). length l ≤ position_or_len (eqb q) l) same past in
    sym (get-contents es q ∙ entry_nowhere q es (omega (arith, length-map es (λ e. e.0))))

pub got_some : {B : Type 0} (q : ℕ) (items : List (ℕ × Object B)) (keys : List ℕ) (place : ℕ) (x : ℕ × Object B) → keys ≡ ids (map seen_entry items) → position (eqb q) keys ≡ Some place
    → x ≡ get_or items place x → Some (seen x.1) ≡ finite.get (contents (map seen_entry items)) q
got_some q items keys place x same found is =
    let es = map seen_entry items in
    let f = position_some (eqb q) keys place found in
    let there : place_of q es ≡ place = ap (λ (l : List ℕ). position_or_len (eqb q) l) (sym same) ∙ f.0 in
    let within : place < length (ids es) = subst (λ (l : List ℕ). place < length l) same f.1 in
    let in_es : place < length es = omega (arith, length-map es (λ e. e.0)) in
    let in_items : place < length items = omega (arith, length-map items seen_entry) in
    let got : entry_at es q ≡ Some (get_or es place (seen_entry x)).1 =
    subst (λ (k : ℕ). entry_at es q ≡ Some (get_or es k (seen_entry x)).1) there (entry_there q es (seen_entry x) (omega arith)) in
    let shows : get_or es place (seen_entry x) ≡ seen_entry x = get_or-map seen_entry items place x (seen_entry x) in_items ∙ ap seen_entry (sym is) in
    sym (get-contents es q ∙ got ∙ ap (λ (e : PoolEntry). Some e.1) shows)

-- ---- replacing an entry at its index

with_new_cases : (b : Bool) (e : PoolEntry) (es : List PoolEntry) (id : ℕ) (o : Seen) → (b || list_any (eqb id) (ids es)) ≡ false
    → (list_any (eqb id) (ids es) ≡ false → with_entry es id o ≡ es ++ (id, o) ∷ []) → cond b ((id, o) ∷ es) (e ∷ with_entry es id o) ≡ e ∷ es ++ (id, o) ∷ []
with_new_cases true e es id o absent later = absurd cc
with_new_cases false e es id o absent later = ap (λ (l : List PoolEntry). e ∷ l) (later absent)

pub with_new : (es : List PoolEntry) (id : ℕ) (o : Seen) → list_any (eqb id) (ids es) ≡ false → with_entry es id o ≡ es ++ (id, o) ∷ []
with_new [] id o absent = refl
with_new (e ∷ es) id o absent = with_new_cases (eqb id e.0) e es id o absent (with_new es id o)

with_old_cases : (b : Bool) (e : PoolEntry) (es : List PoolEntry) (id : ℕ) (o : Seen) → cond (not b) (1 + place_of id es) 0 < suc (length es)
    → (place_of id es < length es → with_entry es id o ≡ set es (place_of id es) (id, o))
    → cond b ((id, o) ∷ es) (e ∷ with_entry es id o) ≡ set (e ∷ es) (cond (not b) (1 + place_of id es) 0) (id, o)
with_old_cases true e es id o lt later = refl
with_old_cases false e es id o lt later =
    let next : 1 + place_of id es ≡ suc (place_of id es) = omega arith in
    rw next (ap (λ (l : List PoolEntry). e ∷ l) (later (omega arith)))

pub with_old : (es : List PoolEntry) (id : ℕ) (o : Seen) → place_of id es < length es → with_entry es id o ≡ set es (place_of id es) (id, o)
with_old [] id o lt = absurd (omega arith)
with_old (e ∷ es) id o lt = with_old_cases (eqb id e.0) e es id o lt (with_old es id o)

-- ---- the IDs and objects after a replacement

abbrev pub with_id : List ℕ → ℕ → List ℕ
with_id keys id = cond (list_any (eqb id) keys) keys (keys ++ id ∷ [])

pushed : (b : Bool) (k : ℕ) (keys others : List ℕ) → cond b (k ∷ keys) (k ∷ others) ≡ k ∷ cond b keys others
pushed true k keys others = refl
pushed false k keys others = refl

ids_cases : (b : Bool) (e : PoolEntry) (es : List PoolEntry) (id : ℕ) (o : Seen) → (b ≡ true → id ≡ e.0) → ids (with_entry es id o) ≡ with_id (ids es) id
    → ids (cond b ((id, o) ∷ es) (e ∷ with_entry es id o)) ≡ cond (b || list_any (eqb id) (ids es)) (e.0 ∷ ids es) (e.0 ∷ ids es ++ id ∷ [])
ids_cases true e es id o same later = ap (λ (k : ℕ). k ∷ ids es) (same refl)
ids_cases false e es id o same later = ap (λ (l : List ℕ). e.0 ∷ l) later ∙ sym (pushed (list_any (eqb id) (ids es)) e.0 (ids es) (ids es ++ id ∷ []))

pub ids_with : (es : List PoolEntry) (id : ℕ) (o : Seen) → ids (with_entry es id o) ≡ with_id (ids es) id
ids_with [] id o = refl
ids_with (e ∷ es) id o = ids_cases (eqb id e.0) e es id o (eqb-true id e.0) (ids_with es id o)

chosen : {A : Type 0} (b : Bool) (x y z : A) → cond b x (cond b y z) ≡ cond b x z
chosen true x y z = refl
chosen false x y z = refl

swapped : {A : Type 0} (a b : Bool) (x y z : A) → (a ≡ true → b ≡ true → ⊥) → cond a x (cond b y z) ≡ cond b y (cond a x z)
swapped true true x y z apart = absurd (apart refl refl)
swapped true false x y z apart = refl
swapped false b x y z apart = refl

at_with_cases : (b : Bool) (e : PoolEntry) (es : List PoolEntry) (id : ℕ) (o : Seen) (q : ℕ) → eqb id e.0 ≡ b → entry_at (with_entry es id o) q ≡ cond (eqb q id) (Some o) (entry_at es q)
    → entry_at (cond b ((id, o) ∷ es) (e ∷ with_entry es id o)) q ≡ cond (eqb q id) (Some o) (cond (eqb q e.0) (Some e.1) (entry_at es q))
at_with_cases true e es id o q is later =
    let same : id ≡ e.0 = eqb-true id e.0 is in
    sym (ap (λ (k : ℕ). cond (eqb q id) (Some o) (cond (eqb q k) (Some e.1) (entry_at es q))) (sym same) ∙ chosen (eqb q id) (Some o) (Some e.1) (entry_at es q))
at_with_cases false e es id o q is later =
    ap (cond (eqb q e.0) (Some e.1)) later
    ∙ swapped (eqb q e.0) (eqb q id) (Some e.1) (Some o) (entry_at es q) (λ a b.
    let one : q ≡ e.0 = eqb-true q e.0 a in
    let other : q ≡ id = eqb-true q id b in
    false≢true (sym is ∙ ap (λ (k : ℕ). eqb k e.0) (sym other) ∙ a))

at_with : (es : List PoolEntry) (id : ℕ) (o : Seen) (q : ℕ) → entry_at (with_entry es id o) q ≡ cond (eqb q id) (Some o) (entry_at es q)
at_with [] id o q = refl
at_with (e ∷ es) id o q = at_with_cases (eqb id e.0) e es id o q refl (at_with es id o q)

pub contents_with : (es : List PoolEntry) (id : ℕ) (o : Seen) → contents (with_entry es id o) ≡ finite.insert (contents es) id o
contents_with es id o =
    finite.same_map nat_cmp_total finite.nat_cmp-IsAntisymmetric _ _ (λ q.
    get-contents (with_entry es id o) q ∙ at_with es id o q
    ∙ sym (finite.get-insert nat_cmp_total (contents es) id o q
    ∙ ap (λ b. cond b (Some o) (finite.get (contents es) q)) (unsigned_tied q id)
    ∙ ap (cond (eqb q id) (Some o)) (get-contents es q)))

-- ---- the view of a list after a write or a push

place_cases : (b : Bool) (k n : ℕ) → (b ≡ false → k < n) → cond (not b) (1 + k) 0 < suc n
place_cases true k n later = omega arith
place_cases false k n later = let lt = later refl in omega arith

any_cases : (b : Bool) (t : Bool) → (b || t) ≡ true → b ≡ false → t ≡ true
any_cases true t h is = absurd cc
any_cases false t h is = h

any_place : (id : ℕ) (keys : List ℕ) → list_any (eqb id) keys ≡ true → position_or_len (eqb id) keys < length keys
any_place id [] any = absurd cc
any_place id (k ∷ keys) any =
    place_cases (eqb id k) (position_or_len (eqb id) keys) (length keys) (λ is. any_place id keys (any_cases (eqb id k) (list_any (eqb id) keys) any is))

pub shown_set : {B : Type 0} (items : List (ℕ × Object B)) (keys : List ℕ) (id place : ℕ) (w : Object B) → keys ≡ ids (map seen_entry items) → place ≡ position_or_len (eqb id) keys → list_any (eqb id) keys ≡ true
    → map seen_entry (set items place (id, w)) ≡ with_entry (map seen_entry items) id (seen w)
shown_set items keys id place w same is any =
    let es = map seen_entry items in
    let there : place ≡ place_of id es = is ∙ ap (λ (l : List ℕ). position_or_len (eqb id) l) same in
    let within : place_of id es < length (ids es) = subst (λ (l : List ℕ). position_or_len (eqb id) l < length l) same (any_place id keys any) in
    map-set seen_entry items place (id, w) ∙ ap (λ (k : ℕ). set es k (id, seen w)) there ∙ sym (with_old es id (seen w) (omega (arith, length-map es (λ e. e.0))))

pub shown_push : {B : Type 0} (items : List (ℕ × Object B)) (keys : List ℕ) (id : ℕ) (w : Object B) → keys ≡ ids (map seen_entry items) → list_any (eqb id) keys ≡ false
    → map seen_entry (items ++ (id, w) ∷ []) ≡ with_entry (map seen_entry items) id (seen w)
shown_push items keys id w same none =
    let es = map seen_entry items in
    map_push seen_entry items (id, w) ∙ sym (with_new es id (seen w) (ap (λ (l : List ℕ). list_any (eqb id) l) (sym same) ∙ none))

-- the IDs still match the objects
pub same_ids : (keys after : List ℕ) (es left : List PoolEntry) (id : ℕ) (o : Seen) → keys ≡ ids es → after ≡ with_id keys id → left ≡ with_entry es id o → after ≡ ids left
same_ids keys after es left id o same is gives =
    is ∙ ap (λ (l : List ℕ). with_id l id) same ∙ sym (ap ids gives ∙ ids_with es id o)
