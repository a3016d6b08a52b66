-- The list of entries as a map from addresses.
use Rattle.std.proofs.Common.{◌≡◌, ◌++◌, IfSome, ◌≢◌, ◌==◌, ap₂, ℕ, zero, suc, ◌+◌, ◌<◌, ◌≤◌, Bool, true, false, cond, eqb, List, [], ◌∷◌, length, get_or, set, Option, Some, None, refl, sym, ap, subst, ◌∙◌, arith, min, length-set, get_or-set_same, get_or-set_other, eq-eqb, ne_eqb, inl, inr, below_more, le-ltb, ◌-◌}
use Rattle.std.proofs.lemmas.Bool.{eqb-true, false≢true}
use Rattle.std.proofs.Math.ListN.{get_or-eq_default}
use Rattle.std.proofs.lemmas.Bool.{cases_lt}
use Rattle.std.proofs.lemmas.List.{get_or_default, nil_from_length}
use Rattle.std.specs.Ordering.{nat_cmp}
use Rattle.std.specs.Cmp.{unsigned_tied, nat_cmp_total}
use Rattle.std.specs.FinMap as finite
use Rattle.vt_can.specs.declared.transport.sessions.Timed.{Timed}
use Rattle.vt_can.specs.transport.Sessions.{ByAddress, SessionTable, map_of_places, table_of_places, ArePlaces, AreOfAddresses, is_overdue, IsFirstOverdue}

before_places : {X : Type 0} (n : ℕ) (places : List (Option X)) (q : ℕ) → q < n → finite.get (map_of_places n places) q ≡ None
before_places n [] q h = finite.get-empty nat_cmp q
before_places n (None ∷ places) q h = before_places (suc n) places q (omega arith)
before_places n (Some x ∷ places) q h =
    finite.get-insert nat_cmp_total (map_of_places (suc n) places) n x q
    ∙ ap (λ b. cond b (Some x) (finite.get (map_of_places (suc n) places) q)) (unsigned_tied q n ∙ ne_eqb q n (omega arith))
    ∙ before_places (suc n) places q (omega arith)

at_place : {X : Type 0} (n : ℕ) (places : List (Option X)) (k q : ℕ) → q ≡ n + k → finite.get (map_of_places n places) q ≡ get_or places k None
at_place n [] k q e = finite.get-empty nat_cmp q
at_place n (None ∷ places) zero q e = before_places (suc n) places q (omega arith)
at_place n (None ∷ places) (suc k) q e = at_place (suc n) places k q (omega arith)
at_place n (Some x ∷ places) zero q e =
    finite.get-insert nat_cmp_total (map_of_places (suc n) places) n x q
    ∙ ap (λ b. cond b (Some x) (finite.get (map_of_places (suc n) places) q)) (unsigned_tied q n ∙ eq-eqb q n (omega arith))
at_place n (Some x ∷ places) (suc k) q e =
    finite.get-insert nat_cmp_total (map_of_places (suc n) places) n x q
    ∙ ap (λ b. cond b (Some x) (finite.get (map_of_places (suc n) places) q)) (unsigned_tied q n ∙ ne_eqb q n (omega arith))
    ∙ at_place (suc n) places k q (omega arith)

pub get-map_of_places : {X : Type 0} (places : List (Option X)) (q : ℕ) → finite.get (map_of_places 0 places) q ≡ get_or places q None
get-map_of_places places q = at_place 0 places q q (omega arith)

chosen_place : {X : Type 0} (places : List (Option X)) (i r : ℕ) (x : Option X) (b : Bool) → eqb r i ≡ b → i < length places
    → get_or (set places i x) r None ≡ cond b x (get_or places r None)
chosen_place places i r x true e h =
    subst (λ (k : ℕ). get_or (set places i x) k None ≡ x) (sym (eqb-true r i e)) (get_or-set_same places i x None h)
chosen_place places i r x false e h =
    get_or-set_other places i r x None (λ same. false≢true (sym e ∙ eq-eqb r i same))

get_or-placed : {X : Type 0} (places : List (Option X)) (i r : ℕ) (x : Option X) → i < length places
    → get_or (set places i x) r None ≡ cond (eqb r i) x (get_or places r None)
get_or-placed places i r x h = chosen_place places i r x (eqb r i) refl h

pub map_of_places-none : {X : Type 0} (places : List (Option X)) (i : ℕ) → i < length places
    → map_of_places 0 (set places i None) ≡ finite.remove (map_of_places 0 places) i
map_of_places-none places i h = finite.same_map nat_cmp_total finite.nat_cmp-IsAntisymmetric _ _ (λ r.
    get-map_of_places (set places i None) r ∙ get_or-placed places i r None h
    ∙ sym (finite.get-remove nat_cmp_total (map_of_places 0 places) i r
    ∙ ap (λ b. cond b None (finite.get (map_of_places 0 places) r)) (unsigned_tied r i)
    ∙ ap (cond (eqb r i) None) (get-map_of_places places r)))

pub map_of_places-some : {X : Type 0} (places : List (Option X)) (i : ℕ) (x : X) → i < length places
    → map_of_places 0 (set places i (Some x)) ≡ finite.insert (map_of_places 0 places) i x
map_of_places-some places i x h = finite.same_map nat_cmp_total finite.nat_cmp-IsAntisymmetric _ _ (λ r.
    get-map_of_places (set places i (Some x)) r ∙ get_or-placed places i r (Some x) h
    ∙ sym (finite.get-insert nat_cmp_total (map_of_places 0 places) i x r
    ∙ ap (λ b. cond b (Some x) (finite.get (map_of_places 0 places) r)) (unsigned_tied r i)
    ∙ ap (cond (eqb r i) (Some x)) (get-map_of_places places r)))

one_more : {X : Type 0} (places : List (Option X)) (m : finite.FinMap nat_cmp X) (n : ℕ) (x : X) (b : Bool) → finite.len m ≤ length places
    → cond b (finite.len m) (finite.len m + 1) ≤ suc (length places)
one_more places m n x true h = omega arith
one_more places m n x false h = omega arith

len-map_of_places : {X : Type 0} (n : ℕ) (places : List (Option X)) → finite.len (map_of_places n places) ≤ length places
len-map_of_places {X} n [] = let none : finite.len (map_of_places {X = X} n []) ≡ 0 = finite.len-empty nat_cmp X in omega arith
len-map_of_places n (None ∷ places) = let before = len-map_of_places (suc n) places in omega arith
len-map_of_places n (Some x ∷ places) =
    subst (λ (k : ℕ). k ≤ suc (length places)) (sym (finite.len-insert nat_cmp_total (map_of_places (suc n) places) n x))
    (one_more places (map_of_places (suc n) places) n x (finite.contains_key (map_of_places (suc n) places) n) (len-map_of_places (suc n) places))

both_none : {X : Type 0} (b : Bool) → ◌≡◌ {A = Option X} (cond b None None) None
both_none true = refl
both_none false = refl

pub one_more_empty : {X : Type 0} (places : List (Option X)) (q : ℕ) → ((k : ℕ) → get_or places k None ≡ None) → get_or (places ++ None ∷ []) q None ≡ None
one_more_empty [] zero empty = refl
one_more_empty [] (suc q) empty = refl
one_more_empty (x ∷ places) zero empty = empty 0
one_more_empty (x ∷ places) (suc q) empty = one_more_empty places q (λ k. empty (suc k))

pub for_some : {X : Type 0} (x : Option X) (P : Type 0) → P → IfSome x (λ _. P)
for_some None P p = tt
for_some (Some x) P p = p

-- results of the calls of `Sessions`, over lists of entries

pub empty_places : {X : Type 0} (places : List (Option X)) → length places ≡ 256 → ((q : ℕ) → q < 256 → get_or places q None ≡ None)
    → (q : ℕ) → get_or places q None ≡ None
empty_places places all none q =
    elim (cases_lt q 256) [ inl h ↦ none q h | inr h ↦ get_or-eq_default places None (omega arith) ]

pub map_of_places-empty : {X : Type 0} (places : List (Option X)) → ((q : ℕ) → get_or places q None ≡ None) → map_of_places 0 places ≡ finite.empty
map_of_places-empty places none = finite.same_map nat_cmp_total finite.nat_cmp-IsAntisymmetric _ _ (λ q.
    get-map_of_places places q ∙ none q ∙ sym (finite.get-empty nat_cmp q))

pub place_read : {X : Type 0} (places : List (Option X)) (i a : ℕ) (x d : Option X) (map : finite.FinMap nat_cmp X)
    → x ≡ get_or places i d → i ≡ a → i < length places → map_of_places 0 places ≡ map → x ≡ finite.get map a
place_read places i a x d map read same h is =
    read ∙ get_or_default places i d None h ∙ sym (get-map_of_places places i)
    ∙ ap (λ (k : ℕ). finite.get (map_of_places 0 places) k) same ∙ ap (λ (m : finite.FinMap nat_cmp _). finite.get m a) is

pub place_removed : {X : Type 0} (places : List (Option X)) (i a : ℕ) (x : Option X) (map : finite.FinMap nat_cmp X)
    → x ≡ None → i ≡ a → i < length places → map_of_places 0 places ≡ map → map_of_places 0 (set places i x) ≡ finite.remove map a
place_removed places i a x map none same h is =
    ap (λ (y : Option _). map_of_places 0 (set places i y)) none ∙ map_of_places-none places i h
    ∙ ap (finite.remove (map_of_places 0 places)) same ∙ ap (λ (m : finite.FinMap nat_cmp _). finite.remove m a) is

pub place_put : {X : Type 0} (places : List (Option X)) (i a : ℕ) (x : X) (map : finite.FinMap nat_cmp X)
    → i ≡ a → i < length places → map_of_places 0 places ≡ map → map_of_places 0 (set places i (Some x)) ≡ finite.insert map a x
place_put places i a x map same h is =
    map_of_places-some places i x h
    ∙ ap (λ (k : ℕ). finite.insert (map_of_places 0 places) k x) same ∙ ap (λ (m : finite.FinMap nat_cmp _). finite.insert m a x) is

module _ {T : Type 0} where
  pub ArePlaces-none : (earliest : ℕ) → ArePlaces {T = T} [] earliest
  ArePlaces-none earliest = record {
    few = omega arith;
    all = λ some. absurd (some refl);
    bound = λ q timed is. let absent : get_or {A = Option (Timed T)} [] q None ≡ None = get_or-eq_default {A = Option (Timed T)} [] None {n = q} (omega arith) in absurd cc;
  }

  pub ArePlaces-empty : (places : List (Option (Timed T))) (earliest : ℕ) → length places ≡ 256 → ((q : ℕ) → get_or places q None ≡ None)
      → ArePlaces places earliest
  ArePlaces-empty places earliest all none =
      record { few = omega (arith, all); all = λ _. all; bound = λ q timed is. let absent = none q in absurd cc }

  chosen_bound : (places : List (Option (Timed T))) (i q earliest : ℕ) (x : Option (Timed T)) (timed : Timed T) (b : Bool)
      → ((timed : Timed T) → x ≡ Some timed → earliest ≤ timed.last)
      → (get_or places q None ≡ Some timed → earliest ≤ timed.last)
      → cond b x (get_or places q None) ≡ Some timed → earliest ≤ timed.last
  chosen_bound places i q earliest x timed true new old is = new timed is
  chosen_bound places i q earliest x timed false new old is = old is

  pub ArePlaces-set : (places : List (Option (Timed T))) (i earliest lower : ℕ) (x : Option (Timed T)) → ArePlaces places earliest → i < length places
      → lower ≤ earliest → ((timed : Timed T) → x ≡ Some timed → lower ≤ timed.last) → ArePlaces (set places i x) lower
  ArePlaces-set places i earliest lower x placed h less new = record {
    few = (let same = length-set places i x in omega (arith, same, placed.few));
    all = λ some. (let same = length-set places i x in same ∙ placed.all (λ none. some (same ∙ none)));
    bound = λ q timed is.
        chosen_bound places i q lower x timed (eqb q i) new (λ old. let bound = placed.bound q timed old in omega arith)
        (sym (get_or-placed places i q x h) ∙ is);
  }

  pub ArePlaces-removed : (places : List (Option (Timed T))) (i earliest : ℕ) (x : Option (Timed T)) → x ≡ None → ArePlaces places earliest → i < length places
      → ArePlaces (set places i x) earliest
  ArePlaces-removed places i earliest x none placed h = ArePlaces-set places i earliest earliest x placed h (omega arith) (λ timed is. absurd cc)

  pub ArePlaces-put : (places : List (Option (Timed T))) (i earliest lower : ℕ) (put : Timed T) → ArePlaces places earliest → i < length places
      → lower ≡ min earliest put.last → ArePlaces (set places i (Some put)) lower
  ArePlaces-put places i earliest lower put placed h least =
      ArePlaces-set places i earliest lower (Some put) placed h (omega arith) (λ timed is.
      let same : put ≡ timed = cc in
      let last : put.last ≡ timed.last = ap (λ (t : Timed T). t.last) same in
      omega arith)

  pub of_addresses : (places : List (Option (Timed T))) (earliest : ℕ) (map : ByAddress T) → ArePlaces places earliest → map_of_places 0 places ≡ map
      → AreOfAddresses map
  of_addresses places earliest map placed is = subst (λ (m : ByAddress T). AreOfAddresses m) is (record {
    none_above = λ q above. get-map_of_places places q ∙ get_or-eq_default places None {n = q} (let all = placed.few in omega arith);
    at_most = let all = placed.few in let few = len-map_of_places 0 places in omega arith;
  })

  -- no session in the first n entries had its last frame before `earliest`
  abbrev pub IsBound : List (Option (Timed T)) → ℕ → ℕ → Type 0
  IsBound places n earliest = (q : ℕ) (timed : Timed T) → q < n → get_or places q None ≡ Some timed → earliest ≤ timed.last

  bound_here : (places : List (Option (Timed T))) (n q : ℕ) (x : Option (Timed T)) (timed : Timed T)
      → n < length places → x ≡ get_or places n x → q ≡ n → get_or places q None ≡ Some timed → x ≡ Some timed
  bound_here places n q x timed h read same is =
      read ∙ get_or_default places n x None h ∙ ap (λ (k : ℕ). get_or places k None) (sym same) ∙ is

  pub bound_more : (places : List (Option (Timed T))) (n earliest lower : ℕ) (x : Option (Timed T)) → IsBound places n earliest
      → n < length places → x ≡ get_or places n x → lower ≤ earliest → ((timed : Timed T) → x ≡ Some timed → lower ≤ timed.last)
      → IsBound places (n + 1) lower
  bound_more places n earliest lower x before h read less new q timed within is =
      elim (cases_lt q n) [
        | inl k ↦ (let old = before q timed k is in omega arith)
        | inr k ↦ new timed (bound_here places n q x timed h read (omega arith) is)
      ]

  pub bound_all : (places : List (Option (Timed T))) (n earliest : ℕ) (map : ByAddress T) → IsBound places n earliest → length places ≤ n
      → map_of_places 0 places ≡ map → (q : ℕ) (timed : Timed T) → finite.get map q ≡ Some timed → earliest ≤ timed.last
  bound_all places n earliest map before h is q timed there =
      let at : get_or places q None ≡ Some timed =
      sym (get-map_of_places places q) ∙ ap (λ (m : ByAddress T). finite.get m q) is ∙ there in
      elim (cases_lt q n) [
        | inl k ↦ before q timed k at
        | inr k ↦ (let past = get_or-eq_default places None {n = q} (omega arith) in absurd cc)
      ]

  pub ArePlaces-bound : (places : List (Option (Timed T))) (earliest lower : ℕ) (map : ByAddress T) → ArePlaces places earliest
      → map_of_places 0 places ≡ map → ((q : ℕ) (timed : Timed T) → finite.get map q ≡ Some timed → lower ≤ timed.last) → ArePlaces places lower
  ArePlaces-bound places earliest lower map placed is bound = record {
    few = placed.few;
    all = placed.all;
    bound = λ q timed there.
        bound q timed (ap (λ (m : ByAddress T). finite.get m q) (sym is) ∙ get-map_of_places places q ∙ there);
  }

  pub inside_table : (places : List (Option (Timed T))) (earliest i : ℕ) → ArePlaces places earliest → length places ≢ 0 → i < 256 → i < length places
  inside_table places earliest i placed some small = let all = placed.all some in omega (arith, all)

  removed_absent : (m : ByAddress T) (a : ℕ) → m ≡ finite.empty → m ≡ finite.remove m a
  removed_absent m a is = finite.same_map nat_cmp_total finite.nat_cmp-IsAntisymmetric _ _ (λ q.
      let absent : (k : ℕ) → finite.get m k ≡ None = λ k. ap (λ (n : ByAddress T). finite.get n k) is ∙ finite.get-empty nat_cmp k in
      absent q ∙ sym (finite.get-remove nat_cmp_total m a q ∙ ap (λ (b : Bool). cond b None (finite.get m q)) (unsigned_tied q a)
      ∙ ap (cond (eqb q a) None) (absent q) ∙ both_none (eqb q a)))

module _ {T : Type 0} (timeout : ℕ) where
  overdue_here : (places : List (Option (Timed T))) (now i : ℕ) (x : Option (Timed T)) (b : Bool) → i < length places
      → b ≡ is_overdue timeout now (get_or places i x) → is_overdue timeout now (get_or places i None) ≡ b
  overdue_here places now i x b h is =
      ap (is_overdue timeout now) (sym (get_or_default places i x None h)) ∙ sym is

  pub none_overdue_more : (places : List (Option (Timed T))) (now i : ℕ) (x : Option (Timed T)) (b : Bool)
      → ((q : ℕ) → q < i → is_overdue timeout now (get_or places q None) ≡ false) → i < length places
      → b ≡ is_overdue timeout now (get_or places i x) → b ≡ false → (q : ℕ) → q < i + 1 → is_overdue timeout now (get_or places q None) ≡ false
  none_overdue_more places now i x b before h is fresh =
      below_more _ _ before (overdue_here places now i x b h is ∙ fresh)

  pub overdue_in : (places : List (Option (Timed T))) (now q : ℕ) (table : SessionTable T) → table_of_places timeout places ≡ table
      → is_overdue table.timeout now (finite.get table.sessions q) ≡ is_overdue timeout now (get_or places q None)
  overdue_in places now q table is =
      ap (λ (t : SessionTable T). is_overdue t.timeout now (finite.get t.sessions q)) (sym is) ∙ ap (is_overdue timeout now) (get-map_of_places places q)

  pub none_overdue : (places : List (Option (Timed T))) (now i : ℕ) (table : SessionTable T)
      → ((q : ℕ) → q < i → is_overdue timeout now (get_or places q None) ≡ false) → length places ≤ i → table_of_places timeout places ≡ table
      → (q : ℕ) → is_overdue table.timeout now (finite.get table.sessions q) ≡ false
  none_overdue places now i table before h is q =
      overdue_in places now q table is
      ∙ elim (cases_lt q i) [
        | inl k ↦ before q k
        | inr k ↦ ap (is_overdue timeout now) (get_or-eq_default places None {n = q} (omega arith))
      ]

  pub first_overdue_at : (places : List (Option (Timed T))) (now i a : ℕ) (x : Option (Timed T)) (b : Bool) (table : SessionTable T)
      → ((q : ℕ) → q < i → is_overdue timeout now (get_or places q None) ≡ false) → i < length places
      → b ≡ is_overdue timeout now (get_or places i x) → b ≡ true → table_of_places timeout places ≡ table → i ≡ a → IsFirstOverdue table.timeout table.sessions now a
  first_overdue_at places now i a x b table before h is late table_is same = record {
    overdue = overdue_in places now a table table_is
        ∙ ap (λ (k : ℕ). is_overdue timeout now (get_or places k None)) (sym same) ∙ overdue_here places now i x b h is ∙ late;
    least = λ q k. overdue_in places now q table table_is ∙ before q (omega arith);
  }

  bounded_not_overdue : (timed : Option (Timed T)) (now earliest : ℕ) → ((t : Timed T) → timed ≡ Some t → earliest ≤ t.last)
      → now - earliest ≤ timeout → is_overdue timeout now timed ≡ false
  bounded_not_overdue None now earliest bound h = refl
  bounded_not_overdue (Some t) now earliest bound h =
      let early : earliest ≤ t.last = bound t refl in le-ltb _ _ (omega arith)

  pub not_overdue : (places : List (Option (Timed T))) (now earliest : ℕ) (table : SessionTable T) → ArePlaces places earliest
      → now - earliest ≤ timeout → table_of_places timeout places ≡ table → (q : ℕ) → is_overdue table.timeout now (finite.get table.sessions q) ≡ false
  not_overdue places now earliest table placed h is q =
      overdue_in places now q table is ∙ bounded_not_overdue (get_or places q None) now earliest (placed.bound q) h

module _ {T : Type 0} {timeout : ℕ} where
  -- ---- results of the calls of `Sessions`, as tables

  pub map_in : (places : List (Option (Timed T))) (table : SessionTable T) → table_of_places timeout places ≡ table → map_of_places 0 places ≡ table.sessions
  map_in places table is = ap (λ (t : SessionTable T). t.sessions) is

  with_map : (places later : List (Option (Timed T))) (table : SessionTable T) (map : ByAddress T) → table_of_places timeout places ≡ table
      → length later ≡ length places → map_of_places 0 later ≡ map → table_of_places timeout later ≡ record table { sessions = map }
  with_map places later table map is same made =
      let changed : table_of_places timeout later ≡ record (table_of_places timeout places) { sessions = map } =
      ap₂ (λ (m : ByAddress T) (n : ℕ). record { sessions = m; allocated = n == 256; timeout = timeout }) made same in
      changed ∙ ap (λ (t : SessionTable T). record t { sessions = map }) is

  pub table_read : (places : List (Option (Timed T))) (i a : ℕ) (x d : Option (Timed T)) (table : SessionTable T)
      → x ≡ get_or places i d → i ≡ a → i < length places → table_of_places timeout places ≡ table → x ≡ finite.get table.sessions a
  table_read places i a x d table read same h is = place_read places i a x d table.sessions read same h (map_in places table is)

  pub table_removed : (places : List (Option (Timed T))) (i a : ℕ) (x : Option (Timed T)) (table : SessionTable T)
      → x ≡ None → i ≡ a → i < length places → table_of_places timeout places ≡ table
      → table_of_places timeout (set places i x) ≡ record table { sessions = finite.remove table.sessions a }
  table_removed places i a x table none same h is =
      with_map places (set places i x) table _ is (length-set places i x) (place_removed places i a x table.sessions none same h (map_in places table is))

  pub table_put : (places : List (Option (Timed T))) (i a : ℕ) (x : Timed T) (table : SessionTable T)
      → i ≡ a → i < length places → table_of_places timeout places ≡ table
      → table_of_places timeout (set places i (Some x)) ≡ record table { sessions = finite.insert table.sessions a x }
  table_put places i a x table same h is =
      with_map places (set places i (Some x)) table _ is (length-set places i (Some x)) (place_put places i a x table.sessions same h (map_in places table is))

  -- a table without places has no sessions, and a removal changes nothing
  no_places : (places : List (Option (Timed T))) (table : SessionTable T) → length places ≡ 0 → table_of_places timeout places ≡ table → table.sessions ≡ finite.empty
  no_places places table none is = sym (map_in places table is) ∙ ap (map_of_places 0) (nil_from_length places none)

  pub read_none : (places : List (Option (Timed T))) (a : ℕ) (table : SessionTable T) → length places ≡ 0 → table_of_places timeout places ≡ table
      → None ≡ finite.get table.sessions a
  read_none places a table none is =
      sym (ap (λ (m : ByAddress T). finite.get m a) (no_places places table none is) ∙ finite.get-empty nat_cmp a)

  pub removed_none : (places : List (Option (Timed T))) (a : ℕ) (table : SessionTable T) → length places ≡ 0 → table_of_places timeout places ≡ table
      → table_of_places timeout places ≡ record table { sessions = finite.remove table.sessions a }
  removed_none places a table none is =
      is ∙ ap (λ (m : ByAddress T). record table { sessions = m }) (removed_absent table.sessions a (no_places places table none is))

  pub is_allocated : (places : List (Option (Timed T))) (earliest : ℕ) (table : SessionTable T) → ArePlaces places earliest → length places ≢ 0
      → table_of_places timeout places ≡ table → table.allocated ≡ true
  is_allocated places earliest table placed some is = sym (ap (λ (t : SessionTable T). t.allocated) is) ∙ eq-eqb (length places) 256 (placed.all some)

  pub has_places : (places : List (Option (Timed T))) (table : SessionTable T) → table.allocated ≡ true → table_of_places timeout places ≡ table → length places ≡ 256
  has_places places table allocated is = eqb-true (length places) 256 (ap (λ (t : SessionTable T). t.allocated) is ∙ allocated)

  -- the table after its allocation
  pub table_allocated : (before after : List (Option (Timed T))) (table : SessionTable T) → length before ≡ 0 → table_of_places timeout before ≡ table
      → length after ≡ 256 → ((q : ℕ) → get_or after q None ≡ None) → table_of_places timeout after ≡ record table { allocated = true }
  table_allocated before after table none is all empty =
      let changed : table_of_places timeout after ≡ record (table_of_places timeout before) { allocated = true } =
      ap₂ (λ (m : ByAddress T) (b : Bool). record { sessions = m; allocated = b; timeout = timeout })
      (map_of_places-empty after empty ∙ sym (ap (map_of_places 0) (nil_from_length before none))) (eq-eqb (length after) 256 all) in
      changed ∙ ap (λ (t : SessionTable T). record t { allocated = true }) is
