-- Entries sorted by ID: they rise strictly if their IDs are unique, and the lookups of IDs among them.
use Rattle.std.proofs.Common.{◌≡◌, ℕ, suc, ◌+◌, ◌<◌, ◌≤◌, Bool, true, false, cond, not, ◌&&◌, eqb, List, [], ◌∷◌, map, filter, length, Option, Some, None, refl, sym, ap, ap₂, subst, ◌∙◌, arith, inl, inr}
use Rattle.std.proofs.lemmas.Bool.{eqb-true, eq-eqb, ne_eqb, cases_lt}
use Rattle.std.proofs.lemmas.Map.Keys.{ge_from_not_lt}
use Rattle.std.specs.Prelude.{slice_index_or, IsTrue}
use Rattle.std.proofs.Common.{T}
use Rattle.std.specs.Ordering.{nat_cmp, is_lt, is_eq, eq_by_cmp}
use Rattle.std.specs.Cmp.{nat_cmp_is}
use Rattle.std.proofs.lemmas.Cmp.{nat_cmp_total}
use Rattle.std.specs.FinMap.{nat_cmp-IsAntisymmetric}
use Rattle.std.specs.declared.cmp.Ordering.{Ordering}
use Rattle.std.specs.FinMap as finite
use Rattle.std.specs.FinMap.Entries.{below_all}
use Rattle.std.specs.declared.cmp.Ordering.TheVariants.{Less, Equal, Greater}
use Rattle.std.specs.List.{AllByRecursion, IsDistinct}
use Rattle.std.specs.List.Sorted.{ties, IsSortedByKey, IsStableByKey}
use Rattle.vt_kinds.specs.declared.object.Object.{Object}
use Rattle.vt_kinds.specs.Records.{Seen, seen}
use Rattle.vt_stores.specs.Stores.{seen_entry, ids}
use Rattle.vt_stores.specs.Stores.{Objects, IsRising, by_rising_id, object_at}

-- ---- orders of numbers

pub less : (a b : ℕ) → a < b → nat_cmp a b ≡ Less
less a b lt = sym (nat_cmp_is a b Less lt)

pub equal : (a : ℕ) → nat_cmp a a ≡ Equal
equal a = sym (nat_cmp_is a a Equal refl)

pub greater : (a b : ℕ) → b < a → nat_cmp a b ≡ Greater
greater a b lt = sym (nat_cmp_is a b Greater lt)

-- the order of two numbers: less, equal or greater
pub data Three (a b : ℕ) : Type 0 where
  below : a < b → Three a b
  same : a ≡ b → Three a b
  above : b < a → Three a b

not_below : (a b : ℕ) → b ≤ a → Three a b
not_below a b le = elim (cases_lt b a) [ inl lt ↦ above lt | inr ge ↦ same (omega arith) ]

pub three : (a b : ℕ) → Three a b
three a b = elim (cases_lt a b) [ inl lt ↦ below lt | inr ge ↦ not_below a b ge ]

ties_by : (a b : ℕ) → Three a b → (not (is_lt (nat_cmp a b)) && not (is_lt (nat_cmp b a))) ≡ eqb a b
ties_by a b (below lt) =
    ap₂ (λ (x y : Ordering). not (is_lt x) && not (is_lt y)) (less a b lt) (greater b a lt) ∙ sym (ne_eqb a b (λ e. absurd (omega (arith, e))))
ties_by a b (same e) =
    subst (λ (b : ℕ). (not (is_lt (nat_cmp a b)) && not (is_lt (nat_cmp b a))) ≡ eqb a b) e
    (ap₂ (λ (x y : Ordering). not (is_lt x) && not (is_lt y)) (equal a) (equal a) ∙ sym (eq-eqb a a refl))
ties_by a b (above lt) =
    ap₂ (λ (x y : Ordering). not (is_lt x) && not (is_lt y)) (greater a b lt) (less b a lt) ∙ sym (ne_eqb a b (λ e. absurd (omega (arith, e))))

equals_by : (a b : ℕ) → Three a b → eq_by_cmp nat_cmp a b ≡ eqb a b
equals_by a b (below lt) = ap is_eq (less a b lt) ∙ sym (ne_eqb a b (λ e. absurd (omega (arith, e))))
equals_by a b (same e) = subst (λ (b : ℕ). eq_by_cmp nat_cmp a b ≡ eqb a b) e (ap is_eq (equal a) ∙ sym (eq-eqb a a refl))
equals_by a b (above lt) = ap is_eq (greater a b lt) ∙ sym (ne_eqb a b (λ e. absurd (omega (arith, e))))

pub both_true : (a b : Bool) → IsTrue (a && b) → IsTrue a × IsTrue b
both_true true b is = (refl, is)
both_true false b is = absurd cc

pub true_both : (a b : Bool) → IsTrue a → IsTrue b → IsTrue (a && b)
true_both true b one other = other
true_both false b one other = absurd cc

less_than : (a e x : ℕ) → a < e → Three e x → IsTrue (is_lt (nat_cmp e x)) → a < x
less_than a e x lt (below later) is = omega arith
less_than a e x lt (same later) is = omega (arith, later)
less_than a e x lt (above later) is =
    let never : false ≡ true = subst (λ (o : Ordering). is_lt o ≡ true) (greater e x later) is in
    absurd cc

pub T_of : (b : Bool) → IsTrue b → T b
T_of true is = tt
T_of false is = absurd cc

-- ---- lower bounds of all IDs

below_all_is : (a e : ℕ) (es : Objects) → a < e → IsTrue (below_all nat_cmp e es) → IsTrue (below_all nat_cmp a es)
below_all_is a e [] lt all = refl
below_all_is a e (x ∷ es) lt all =
    let parts = both_true (is_lt (nat_cmp e x.0)) (below_all nat_cmp e es) all in
    true_both (is_lt (nat_cmp a x.0)) (below_all nat_cmp a es)
    (subst (λ (o : Ordering). IsTrue (is_lt o)) (sym (less a x.0 (less_than a e x.0 lt (three e x.0) parts.0))) refl) (below_all_is a e es lt parts.1)

-- ---- the result of a lookup

module _ {B : Type 0} where
  -- the entries with an ID
  of : ℕ → List (ℕ × Object B) → List (ℕ × Object B)
  of q es = filter (λ e. eqb q e.0) es

  tied : (q : ℕ) (o : Object B) (es : List (ℕ × Object B))
      → filter (ties (λ (x y : ℕ × Object B). is_lt (nat_cmp x.0 y.0)) (q, o)) es ≡ of q es
  unfolding of
  tied q o [] = refl
  tied q o (e ∷ es) =
      ap₂ (λ (b : Bool) (r : List (ℕ × Object B)). cond b (e ∷ r) r) (ties_by q e.0 (three q e.0)) (tied q o es)

  first : List (ℕ × Object B) → Option Seen
  first [] = None
  first (e ∷ es) = Some (seen e.1)

  found_case : (e : ℕ × Object B) (rest : List (ℕ × Object B)) (later : Option Seen) (b : Bool) → later ≡ first rest
      → cond b (Some (seen e.1)) later ≡ first (cond b (e ∷ rest) rest)
  unfolding first
  found_case e rest later true is = refl
  found_case e rest later false is = is

  found : (q : ℕ) (es : List (ℕ × Object B)) → object_at (map seen_entry es) q ≡ first (of q es)
  unfolding of first
  found q [] = refl
  found q (e ∷ es) =
      ap (λ (b : Bool). cond b (Some (seen e.1)) (object_at (map seen_entry es) q)) (equals_by q e.0 (three q e.0))
      ∙ found_case e (of q es) (object_at (map seen_entry es) q) (eqb q e.0) (found q es)

  -- ---- unique IDs

  AtMostOnce : List (ℕ × Object B) → Type 0
  AtMostOnce es = (q : ℕ) → length (of q es) ≤ 1

  of_here : (q : ℕ) (e : ℕ × Object B) (es : List (ℕ × Object B)) → q ≡ e.0 → of q (e ∷ es) ≡ e ∷ of q es
  unfolding of
  of_here q e es is = ap (λ (b : Bool). cond b (e ∷ of q es) (of q es)) (eq-eqb q e.0 is)

  of_longer : (q : ℕ) (e : ℕ × Object B) (es : List (ℕ × Object B)) (b : Bool) → length (of q es) ≤ length (cond b (e ∷ of q es) (of q es))
  of_longer q e es true = omega arith
  of_longer q e es false = omega arith

  once_later : (e : ℕ × Object B) (es : List (ℕ × Object B)) → AtMostOnce (e ∷ es) → AtMostOnce es
  unfolding AtMostOnce of
  once_later e es once q =
      let longer = of_longer q e es (eqb q e.0) in
      let all = once q in
      omega arith

  nowhere_else : (e : ℕ × Object B) (es : List (ℕ × Object B)) → AtMostOnce (e ∷ es) → length (of e.0 es) ≡ 0
  unfolding AtMostOnce
  nowhere_else e es once =
      let here = ap length (of_here e.0 e es refl) in
      let all = once e.0 in
      omega arith

  -- ---- sorted entries with unique IDs rise strictly

  abbrev pub Sorted : List (ℕ × Object B) → Type 0
  Sorted es = IsSortedByKey (λ (e : ℕ × Object B). e.0) nat_cmp es

  sorted_later : (e : ℕ × Object B) (es : List (ℕ × Object B)) → Sorted (e ∷ es) → Sorted es
  sorted_later e es sorted k d low high =
      let next : suc k + 1 ≡ suc (k + 1) = omega arith in
      subst (λ (n : ℕ). is_lt (nat_cmp (slice_index_or (e ∷ es) n d).0 (slice_index_or es k d).0) ≡ false) next (sorted (suc k) d (omega arith) (omega arith))

  above_next : (a e : ℕ × Object B) (es : List (ℕ × Object B)) → Three a.0 e.0 → Sorted (a ∷ e ∷ es) → length (of a.0 (e ∷ es)) ≡ 0 → a.0 < e.0
  above_next a e es (below lt) sorted none = lt
  above_next a e es (same is) sorted none =
      let here = ap length (of_here a.0 e es is) in
      absurd (omega arith)
  above_next a e es (above lt) sorted none =
      let le : a.0 ≤ e.0 = ge_from_not_lt e.0 a.0 (sorted 0 a (omega arith) (omega arith)) in
      absurd (omega arith)

  rises : (es : List (ℕ × Object B)) → Sorted es → AtMostOnce es → IsRising (map seen_entry es)
  rises [] sorted once = refl
  rises (e ∷ []) sorted once = refl
  rises (a ∷ e ∷ es) sorted once =
      let later = rises (e ∷ es) (sorted_later a (e ∷ es) sorted) (once_later a (e ∷ es) once) in
      let parts = both_true (below_all nat_cmp e.0 (map seen_entry es)) (finite.is_sorted nat_cmp (map seen_entry es)) later in
      let lt = above_next a e es (three a.0 e.0) sorted (nowhere_else a (e ∷ es) once) in
      let next : IsTrue (is_lt (nat_cmp a.0 e.0)) = subst (λ (o : Ordering). IsTrue (is_lt o)) (sym (less a.0 e.0 lt)) refl in
      true_both _ _ (true_both _ _ next (below_all_is a.0 e.0 (map seen_entry es) lt parts.0)) later

  -- ---- distinct IDs are unique

  none_of : (q : ℕ) (es : List (ℕ × Object B)) → AllByRecursion (λ k. eqb q k ≡ false) (map (λ e. e.0) es) → length (of q es) ≡ 0
  unfolding of
  none_of q [] all = refl
  none_of q (e ∷ es) all = ap (λ (b : Bool). length (cond b (e ∷ of q es) (of q es))) all.0 ∙ none_of q es all.1

  once_case : (q : ℕ) (e : ℕ × Object B) (es : List (ℕ × Object B)) (b : Bool) → eqb q e.0 ≡ b → AllByRecursion (λ k. eqb e.0 k ≡ false) (map (λ e. e.0) es)
      → length (of q es) ≤ 1 → length (cond b (e ∷ of q es) (of q es)) ≤ 1
  once_case q e es true is all later =
      let none = subst (λ (k : ℕ). length (of k es) ≡ 0) (sym (eqb-true q e.0 is)) (none_of e.0 es all) in
      omega arith
  once_case q e es false is all later = later

  distinct_once : (es : List (ℕ × Object B)) → IsDistinct eqb (map (λ e. e.0) es) → AtMostOnce es
  unfolding of IsDistinct AtMostOnce
  distinct_once [] distinct q = omega arith
  distinct_once (e ∷ es) distinct q = once_case q e es (eqb q e.0) refl distinct.0 (distinct_once es distinct.1 q)

  -- ---- a stable sort keeps the entries of each ID

  abbrev pub Stable : List (ℕ × Object B) → List (ℕ × Object B) → Type 0
  Stable es sorted = IsStableByKey (λ (e : ℕ × Object B). e.0) nat_cmp es sorted

  same_of : (q : ℕ) (es sorted : List (ℕ × Object B)) → length es ≡ length sorted → Stable es sorted → of q sorted ≡ of q es
  same_of q [] [] len stable = refl
  same_of q [] (s ∷ sorted) len stable = absurd (omega arith)
  same_of q (e ∷ es) sorted len stable = sym (tied q e.1 sorted) ∙ stable (q, e.1) ∙ tied q e.1 (e ∷ es)

  still_once : (es sorted : List (ℕ × Object B)) → length es ≡ length sorted → Stable es sorted → AtMostOnce es → AtMostOnce sorted
  unfolding AtMostOnce
  still_once es sorted len stable once q =
      let same = ap length (same_of q es sorted len stable) in
      let all = once q in
      omega arith

  pub sorted_rises : (es sorted : List (ℕ × Object B)) → length es ≡ length sorted → IsDistinct eqb (map (λ e. e.0) es) → Stable es sorted → Sorted sorted
      → IsRising (map seen_entry sorted)
  sorted_rises es sorted len distinct stable is = rises sorted is (still_once es sorted len stable (distinct_once es distinct))

  pub sorted_is : (es sorted : List (ℕ × Object B)) → length es ≡ length sorted → IsDistinct eqb (map (λ e. e.0) es) → Stable es sorted → Sorted sorted
      → map seen_entry sorted ≡ by_rising_id (map seen_entry es)
  unfolding by_rising_id
  sorted_is es sorted len distinct stable is =
      let rising = T_of _ (sorted_rises es sorted len distinct stable is) in
      sym (finite.entries-from_sorted nat_cmp (map seen_entry sorted) rising)
      ∙ ap finite.entries (finite.same_map nat_cmp_total nat_cmp-IsAntisymmetric (finite.from_sorted (map seen_entry sorted)) (finite.from_entries (map seen_entry es))
      (λ q. finite.get-from_sorted nat_cmp (map seen_entry sorted) q rising
      ∙ found q sorted ∙ ap first (same_of q es sorted len stable) ∙ sym (found q es)
      ∙ sym (finite.get-from_entries nat_cmp_total (map seen_entry es) q)))

  pub ids_shown : (es : List (ℕ × Object B)) → ids (map seen_entry es) ≡ map (λ e. e.0) es
  ids_shown [] = refl
  ids_shown (e ∷ es) = ap (λ (l : List ℕ). e.0 ∷ l) (ids_shown es)

-- ---- strictly rising IDs are distinct

none_alike : (a : ℕ) (s : Objects) → IsTrue (below_all nat_cmp a s) → AllByRecursion (λ k. eqb a k ≡ false) (ids s)
none_alike a [] lower = tt
none_alike a (x ∷ s) lower =
    let parts = both_true (is_lt (nat_cmp a x.0)) (below_all nat_cmp a s) lower in
    (ne_eqb a x.0 (λ e. alike (three a x.0) e parts.0), none_alike a s parts.1)
  where
    alike : Three a x.0 → a ≡ x.0 → IsTrue (is_lt (nat_cmp a x.0)) → ⊥
    alike t e is =
        let never : false ≡ true = subst (λ (o : Ordering). is_lt o ≡ true) (subst (λ (k : ℕ). nat_cmp a k ≡ Equal) e (equal a)) is in
        absurd cc

pub distinct_rising : (s : Objects) → IsRising s → IsDistinct eqb (ids s)
unfolding IsDistinct
distinct_rising [] rising = tt
distinct_rising (x ∷ s) rising =
    let parts = both_true (below_all nat_cmp x.0 s) (finite.is_sorted nat_cmp s) rising in
    (none_alike x.0 s parts.0, distinct_rising s parts.1)
