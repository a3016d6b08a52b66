-- The objects written to a pool are the objects read back from it.
use Rattle.std.proofs.Common.{◌≡◌, ℕ, Bool, true, false, cond, eqb, not, List, [], ◌∷◌, ◌++◌, length, reverse, filter, Option, Some, None, refl, sym, ap, subst, ◌∙◌, arith}
use Rattle.std.specs.List.{AllByRecursion, IsDistinct, list_any}
use Rattle.std.proofs.lemmas.Bool.{eqb-true, eq-eqb}
use Rattle.std.proofs.lemmas.Cmp.{nat_eq_equiv}
use Rattle.std.proofs.lemmas.Map.Keys.{IsDistinct-head, IsDistinct-tail, IsDistinct-push}
use Rattle.std.proofs.lemmas.List.{reverse-append}
use Rattle.std.specs.FinMap as finite
use Rattle.vt_kinds.specs.Records.{Seen, HasRecord}
use Rattle.vt_stores.specs.Stores.{ObjectMap}
use Rattle.vt_pool.specs.Pools.{PoolEntry, joined, AreRecords, first_occurrences, ids, AreObjects, IsInForce, WrittenIsRead}
use Rattle.vt_pool.specs.EntryWrites.{with_entry}
use Rattle.vt_pool.proofs.EntryIndices.{entry_at, get-contents, ids_with}
use Rattle.vt_records.proofs.ReadInvertsWrite.{same_record}

-- ---- equal bytes hold equal records

pub joined_one : (a b : List PoolEntry) → AreRecords a → AreRecords b → joined a ≡ joined b → a ≡ b
joined_one [] [] one other e = refl
joined_one [] (r ∷ b) one other e = let len = ap length e in absurd (omega arith)
joined_one (r ∷ a) [] one other e = let len = ap length e in absurd (omega arith)
joined_one (r ∷ a) (s ∷ b) one other e =
    let same = same_record r.0 s.0 r.1 s.1 (joined a) (joined b) one.0 other.0 e in
    let later = joined_one a b one.1 other.1 same.same_rest in
    let id = same.same_id in
    let object = same.same_object in
    ap (λ (es : List PoolEntry). r ∷ es) later ∙ ap (λ (id : ℕ). (id, r.1) ∷ b) id ∙ ap (λ (o : Seen). (s.0, o) ∷ b) object

-- ---- distinct IDs are their own first occurrences

all_kept : (x : ℕ) (xs : List ℕ) → AllByRecursion (λ y. eqb x y ≡ false) xs → filter (λ other. not (eqb x other)) xs ≡ xs
all_kept x [] apart = refl
all_kept x (y ∷ ys) apart = rw apart.0 (ap (λ (l : List ℕ). y ∷ l) (all_kept x ys apart.1))

firsts : (xs : List ℕ) → IsDistinct eqb xs → first_occurrences xs ≡ xs
firsts [] apart = refl
firsts (x ∷ xs) apart =
    ap (λ (l : List ℕ). x ∷ filter (λ other. not (eqb x other)) l) (firsts xs (IsDistinct-tail eqb x xs apart))
    ∙ ap (λ (l : List ℕ). x ∷ l) (all_kept x xs (IsDistinct-head eqb x xs apart))

-- ---- the object of an ID in a list

abbrev or_else : Option Seen → Option Seen → Option Seen
or_else (Some x) y = Some x
or_else None y = y

else_none : (x : Option Seen) → or_else x None ≡ x
else_none (Some x) = refl
else_none None = refl

at_cases : (b : Bool) (x : Seen) (y z : Option Seen) → cond b (Some x) (or_else y z) ≡ or_else (cond b (Some x) y) z
at_cases true x y z = refl
at_cases false x y z = refl

entry_append : (es fs : List PoolEntry) (q : ℕ) → entry_at (es ++ fs) q ≡ or_else (entry_at es q) (entry_at fs q)
entry_append [] fs q = refl
entry_append (e ∷ es) fs q = ap (λ (o : Option Seen). cond (eqb q e.0) (Some e.1) o) (entry_append es fs q) ∙ at_cases (eqb q e.0) e.1 (entry_at es q) (entry_at fs q)

absent : (q : ℕ) (es : List PoolEntry) → AllByRecursion (λ y. eqb q y ≡ false) (ids es) → entry_at es q ≡ None
absent q [] apart = refl
absent q (e ∷ es) apart = rw apart.0 (absent q es apart.1)

turned_cases : (b : Bool) (q : ℕ) (e : PoolEntry) (es : List PoolEntry) → eqb q e.0 ≡ b → AllByRecursion (λ y. eqb e.0 y ≡ false) (ids es)
    → or_else (entry_at es q) (cond b (Some e.1) None) ≡ cond b (Some e.1) (entry_at es q)
turned_cases true q e es is apart =
    let same : q ≡ e.0 = eqb-true q e.0 is in
    let none : entry_at es q ≡ None = subst (λ (n : ℕ). entry_at es n ≡ None) (sym same) (absent e.0 es apart) in
    rw none refl
turned_cases false q e es is apart = else_none (entry_at es q)

turned : (es : List PoolEntry) (q : ℕ) → IsDistinct eqb (ids es) → entry_at (reverse es) q ≡ entry_at es q
turned [] q apart = refl
turned (e ∷ es) q apart =
    ap (λ (l : List PoolEntry). entry_at l q) (reverse-append (e ∷ []) es) ∙ entry_append (reverse es) (e ∷ []) q
    ∙ ap (λ (o : Option Seen). or_else o (entry_at (e ∷ []) q)) (turned es q (IsDistinct-tail eqb e.0 (ids es) apart))
    ∙ turned_cases (eqb q e.0) q e es refl (IsDistinct-head eqb e.0 (ids es) apart)

-- ---- lists with equal IDs and equal objects are equal

tail_cases : (b : Bool) (q : ℕ) (d e : PoolEntry) (ds es : List PoolEntry) → eqb q e.0 ≡ b → AllByRecursion (λ y. eqb e.0 y ≡ false) (ids ds) → AllByRecursion (λ y. eqb e.0 y ≡ false) (ids es)
    → cond b (Some d.1) (entry_at ds q) ≡ cond b (Some e.1) (entry_at es q) → entry_at ds q ≡ entry_at es q
tail_cases true q d e ds es is one other same =
    let id : q ≡ e.0 = eqb-true q e.0 is in
    subst (λ (n : ℕ). entry_at ds n ≡ entry_at es n) (sym id) (absent e.0 ds one ∙ sym (absent e.0 es other))
tail_cases false q d e ds es is one other same = same

head_cases : (b : Bool) (x y : Seen) (rest other : Option Seen) → b ≡ true → cond b (Some x) rest ≡ cond b (Some y) other → x ≡ y
head_cases true x y rest other is e = cc
head_cases false x y rest other is e = absurd cc

head_is : (x y : Seen) (rest other : Option Seen) (q : ℕ) → cond (eqb q q) (Some x) rest ≡ cond (eqb q q) (Some y) other → x ≡ y
head_is x y rest other q e = head_cases (eqb q q) x y rest other (eq-eqb q q refl) e

pub same_entries : (ds es : List PoolEntry) → ids ds ≡ ids es → IsDistinct eqb (ids es) → ((q : ℕ) → entry_at ds q ≡ entry_at es q) → ds ≡ es
same_entries [] [] order apart same = refl
same_entries [] (e ∷ es) order apart same = absurd cc
same_entries (d ∷ ds) [] order apart same = absurd cc
same_entries (d ∷ ds) (e ∷ es) order apart same =
    let others = IsDistinct-head eqb e.0 (ids es) apart in
    let id : d.0 ≡ e.0 = cc in
    let later : ids ds ≡ ids es = cc in
    let at : (q : ℕ) → cond (eqb q e.0) (Some d.1) (entry_at ds q) ≡ cond (eqb q e.0) (Some e.1) (entry_at es q) =
    λ q. subst (λ (n : ℕ). cond (eqb q n) (Some d.1) (entry_at ds q) ≡ cond (eqb q e.0) (Some e.1) (entry_at es q)) id (same q) in
    let object : d.1 ≡ e.1 = head_is d.1 e.1 (entry_at ds e.0) (entry_at es e.0) e.0 (at e.0) in
    let apart_too : AllByRecursion (λ y. eqb e.0 y ≡ false) (ids ds) = subst (λ (l : List ℕ). AllByRecursion (λ y. eqb e.0 y ≡ false) l) (sym later) others in
    let rest = same_entries ds es later (IsDistinct-tail eqb e.0 (ids es) apart) (λ q. tail_cases (eqb q e.0) q d e ds es refl apart_too others (at q)) in
    ap (λ (l : List PoolEntry). d ∷ l) rest ∙ ap (λ (id : ℕ). (id, d.1) ∷ es) id ∙ ap (λ (o : Seen). (e.0, o) ∷ es) object

-- ---- the objects of a pool stay valid

distinct_cases : (b : Bool) (xs : List ℕ) (id : ℕ) → list_any (eqb id) xs ≡ b → IsDistinct eqb xs → IsDistinct eqb (cond b xs (xs ++ id ∷ []))
distinct_cases true xs id is apart = apart
distinct_cases false xs id is apart = IsDistinct-push nat_eq_equiv xs id apart is

records_cases : (b : Bool) (e : PoolEntry) (es with : List PoolEntry) (id : ℕ) (o : Seen) → HasRecord e.0 e.1 → AreRecords es → HasRecord id o → AreRecords with → AreRecords (cond b ((id, o) ∷ es) (e ∷ with))
records_cases true e es with id o first others has later = (has, others)
records_cases false e es with id o first others has later = (first, later)

records_with : (es : List PoolEntry) (id : ℕ) (o : Seen) → AreRecords es → HasRecord id o → AreRecords (with_entry es id o)
records_with [] id o are has = (has, tt)
records_with (e ∷ es) id o are has = records_cases (eqb id e.0) e es (with_entry es id o) id o are.0 are.1 has (records_with es id o are.1 has)

pub objects_with : (es left : List PoolEntry) (id : ℕ) (o : Seen) → AreObjects es → HasRecord id o → left ≡ with_entry es id o → AreObjects left
objects_with es left id o are has gives =
    let next : AreObjects (with_entry es id o) = record {
      distinct = subst (IsDistinct eqb) (sym (ids_with es id o)) (distinct_cases (list_any (eqb id) (ids es)) (ids es) id refl are.distinct);
      whole = records_with es id o are.whole has;
    } in
    subst AreObjects (sym gives) next

pub written_read : WrittenIsRead
written_read written records objects are read same in_force =
    let apart = are.distinct in
    let one : records ≡ written = joined_one records written read are.whole (sym same) in
    let force : IsInForce written objects = subst (λ (rs : List PoolEntry). IsInForce rs objects) one in_force in
    same_entries objects written (force.order ∙ firsts (ids written) apart) apart
    (λ q. sym (get-contents objects q) ∙ ap (λ (m : ObjectMap). finite.get m q) force.last ∙ get-contents (reverse written) q ∙ turned written q apart)
