-- The objects of a store as the entries of its map, and as records that are written one by one.
use Rattle.std.proofs.Common.{◌≡◌, ◌∙◌, ℕ, ◌+◌, ◌<◌, ◌≤◌, List, ◌∷◌, ◌++◌, length, map, drop, get_or, ap, sym, subst, append_assoc, arith, suc}
use Rattle.std.specs.FinMap as finite
use Rattle.std.proofs.lemmas.List.{append-nil, drop_all, get_or-map, length-map}
use Rattle.std.proofs.Math.Seq.{drop-cons}
use Rattle.vt_kinds.specs.Ids.{null_id}
use Rattle.vt_kinds.specs.declared.object.Object.{Object}
use Rattle.vt_kinds.specs.Records.{record_of}
use Rattle.check_needs.proofs.lemmas.SeenRecords.{seen_record}
use Rattle.vt_pool.specs.Pools.{joined}
use Rattle.vt_stores.specs.Stores.{AreStored, Objects, map_of, seen_entry}
use Rattle.vt_stores.proofs.StoreMethods.{entries_from}

-- No object of a store has the ID NULL.
pub is_named : {B : Type 0} (items : List (ℕ × Object B)) (i : ℕ) (e : ℕ × Object B) → i < length items → e ≡ get_or items i e
    → AreStored (map seen_entry items) → e.0 < null_id
is_named items i e inside is stored =
    let all = map seen_entry items in
    let many = length-map items seen_entry in
    let here = get_or-map (λ (o : ℕ × _). o.0) all i (seen_entry e) e.0 (subst (λ (n : ℕ). i < n) (sym many) inside) in
    let there = get_or-map seen_entry items i e (seen_entry e) inside in
    let low = stored.named.named i e.0 (subst (λ (n : ℕ). i < n) (sym (length-map all (λ (o : ℕ × _). o.0) ∙ many)) inside) in
    subst (λ (id : ℕ). id < null_id) (here ∙ ap (λ (o : ℕ × _). o.0) there ∙ ap (λ (o : ℕ × _). o.0) (sym is)) low

-- The record of the next object is written.
pub one_more : {B : Type 0} (before after whole : List ℕ) (items : List (ℕ × Object B)) (i : ℕ) (e : ℕ × Object B) → i < length items → e ≡ get_or items i e
    → after ≡ before ++ record_of e.0 e.1 → whole ≡ before ++ joined (map seen_entry (drop i items)) → whole ≡ after ++ joined (map seen_entry (drop (i + 1) items))
one_more before after whole items i e inside is written left =
    let rest = joined (map seen_entry (drop (i + 1) items)) in
    let up : suc i ≡ i + 1 = omega arith in
    let next : drop i items ≡ e ∷ drop (i + 1) items =
    drop-cons items i e inside ∙ ap (λ (n : ℕ). get_or items i e ∷ drop n items) up ∙ ap (λ (o : ℕ × _). o ∷ drop (i + 1) items) (sym is) in
    left
    ∙ ap (λ (es : List _). before ++ joined (map seen_entry es)) next
    ∙ ap (λ (bytes : List ℕ). before ++ (bytes ++ rest)) (seen_record e.0 e.1)
    ∙ sym (append_assoc before (record_of e.0 e.1) rest)
    ∙ ap (λ (bytes : List ℕ). bytes ++ rest) (sym written)

-- All records are written.
pub all_written : {B : Type 0} (whole bytes : List ℕ) (items : List (ℕ × Object B)) (i : ℕ) → length items ≤ i
    → whole ≡ bytes ++ joined (map seen_entry (drop i items)) → whole ≡ bytes
all_written whole bytes items i past left =
    left ∙ ap (λ (es : List _). bytes ++ joined (map seen_entry es)) (drop_all i items past) ∙ append-nil bytes

-- The entries of a store's map are its objects.
pub of_map : (bytes : List ℕ) (store : Objects) → AreStored store → joined store ≡ bytes → bytes ≡ joined (finite.entries (map_of store))
of_map bytes store stored written = sym written ∙ sym (ap joined (entries_from store stored.rising))
