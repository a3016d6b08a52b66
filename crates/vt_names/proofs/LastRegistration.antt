-- Each set is determined by the last registration of its address and the changes since.
use Rattle.std.proofs.Common.{◌≡◌, ◌≢◌, ℕ, zero, suc, ◌-◌, ◌<◌, ◌≤◌, inl, inr, Bool, true, false, cond, ◌||◌, nat_lt, List, [], ◌∷◌, ◌++◌, length, take, Option, Some, None, refl, sym, ap, ◌∙◌, arith, eq-eqb, ne_eqb, append-nil, subst}
use Rattle.std.proofs.lemmas.Option.{same_Some}
use Rattle.std.proofs.lemmas.Bool.{lt-ltb, le-ltb, cases_lt}
use Rattle.vt_names.specs.Registry.{Set, set_at, with_set, joining, binding, preloaded, mastered, with_member, bound, has_place}
use Rattle.vt_names.specs.Registrations.{RegistryInput, Masters, Joins, Closes, Preloads, Binds, registers, closes, registration_name, registration_count, bound_name, member_names, IsOfLast, after_events}
use Rattle.vt_names.proofs.AddressesAfterClaim.{by_eq, none-some}
use Rattle.vt_names.proofs.SetsByAddress.{set_at-address, at-with, at-without}

-- ---- a registration, and a change that does not concern its address

take-none : (n : ℕ) → ◌≡◌ {A = List ℕ} (take n []) []
take-none zero = refl
take-none (suc n) = refl

first : (q : ℕ) (e : RegistryInput) (earlier : List RegistryInput) (s : Set) → registers q e ≡ true
    → s.name ≡ registration_name e → s.count ≡ registration_count e → s.members ≡ [] → IsOfLast (e ∷ earlier) q s
first q e earlier s own name count none = record {
  since = [];
  registration = e;
  before = earlier;
  all = refl;
  of_address = own;
  last = tt;
  name = name;
  count = count;
  members = none ∙ sym (take-none (s.count - 1));
}

other : (q : ℕ) (e : RegistryInput) (earlier : List RegistryInput) (s : Set) → (registers q e || closes q e) ≡ false
    → ((since : List RegistryInput) (name : Option ℕ) → bound_name q (e ∷ since) name ≡ bound_name q since name)
    → ((since : List RegistryInput) → member_names q (e ∷ since) ≡ member_names q since)
    → IsOfLast earlier q s → IsOfLast (e ∷ earlier) q s
other q e earlier s apart names members is = record {
  since = e ∷ is.since;
  registration = is.registration;
  before = is.before;
  all = ap (λ l. e ∷ l) is.all;
  of_address = is.of_address;
  last = (apart, is.last);
  name = is.name ∙ sym (names is.since (registration_name is.registration));
  count = is.count;
  members = is.members ∙ sym (ap (take (s.count - 1)) (members is.since));
}

-- ---- a member message, and a bound NAME

cons-cond : (b : Bool) (x : ℕ) (l m : List ℕ) → x ∷ cond b l m ≡ cond b (x ∷ l) (x ∷ m)
cons-cond true x l m = refl
cons-cond false x l m = refl

below : (m n x y : ℕ) → (m < n → x < y) → (n ≤ m → y ≤ x) → nat_lt x y ≡ nat_lt m n
below m n x y less more = elim (cases_lt m n) as (λ _. nat_lt x y ≡ nat_lt m n) [
  | inl h ↦ lt-ltb x y (less h) ∙ sym (lt-ltb m n h)
  | inr h ↦ le-ltb x y (more h) ∙ sym (le-ltb m n h)
]

place : (count m : ℕ) → nat_lt (suc m) count ≡ nat_lt m (count - 1)
place count m = below m (count - 1) (suc m) count (λ h. omega arith) (λ h. omega arith)

one-more : (k : ℕ) (l : List ℕ) (n : ℕ) → take k (l ++ n ∷ []) ≡ cond (nat_lt (length (take k l)) k) (take k l ++ n ∷ []) (take k l)
one-more zero l n = refl
one-more (suc k) [] n = ap (λ t. n ∷ t) (take-none k) ∙ sym (ap (λ b. cond b (n ∷ []) []) (lt-ltb 0 (suc k) (omega arith)))
one-more (suc k) (x ∷ l) n =
    ap (λ t. x ∷ t) (one-more k l n) ∙ cons-cond (nat_lt (length (take k l)) k) x (take k l ++ n ∷ []) (take k l)
    ∙ ap (λ b. cond b (x ∷ take k l ++ n ∷ []) (x ∷ take k l)) (sym (below (length (take k l)) k (suc (length (take k l))) (suc k) (λ h. omega arith) (λ h. omega arith)))

joined-last : (q n : ℕ) (earlier : List RegistryInput) (s : Set) (b : Bool) → has_place s ≡ b → IsOfLast earlier q s
    → IsOfLast (Joins q n ∷ earlier) q (cond b (with_member s n) s)
joined-last q n earlier s b has is = record {
  since = Joins q n ∷ is.since;
  registration = is.registration;
  before = is.before;
  all = ap (λ l. Joins q n ∷ l) is.all;
  of_address = is.of_address;
  last = (refl, is.last);
  name = name b ∙ is.name;
  count = count b ∙ is.count;
  members = members b (sym (sym has ∙ place s.count (length s.members) ∙ ap (λ l. nat_lt (length l) (s.count - 1)) is.members)) ∙ ap (λ (c : ℕ). take (c - 1) (member_names q (Joins q n ∷ is.since))) (sym (count b));
}
  where
    name : (b : Bool) → (cond b (with_member s n) s).name ≡ s.name
    name true = refl
    name false = refl

    count : (b : Bool) → (cond b (with_member s n) s).count ≡ s.count
    count true = refl
    count false = refl

    taken : List ℕ
    taken = take (s.count - 1) (member_names q is.since)

    more : take (s.count - 1) (member_names q (Joins q n ∷ is.since)) ≡ cond (nat_lt (length taken) (s.count - 1)) (taken ++ n ∷ []) taken
    more = ap (λ c. take (s.count - 1) (member_names q is.since ++ cond c (n ∷ []) [])) (eq-eqb q q refl) ∙ one-more (s.count - 1) (member_names q is.since) n

    members : (b : Bool) → nat_lt (length taken) (s.count - 1) ≡ b → (cond b (with_member s n) s).members ≡ take (s.count - 1) (member_names q (Joins q n ∷ is.since))
    members true e = ap (λ l. l ++ n ∷ []) is.members ∙ sym (more ∙ ap (λ c. cond c (taken ++ n ∷ []) taken) e)
    members false e = is.members ∙ sym (more ∙ ap (λ c. cond c (taken ++ n ∷ []) taken) e)

bound-last : (q n : ℕ) (earlier : List RegistryInput) (s : Set) → IsOfLast earlier q s → IsOfLast (Binds q n ∷ earlier) q (bound s n)
bound-last q n earlier s is = record {
  since = Binds q n ∷ is.since;
  registration = is.registration;
  before = is.before;
  all = ap (λ l. Binds q n ∷ l) is.all;
  of_address = is.of_address;
  last = (refl, is.last);
  name = sym (ap (λ c. cond c (Some n) (bound_name q is.since (registration_name is.registration))) (eq-eqb q q refl));
  count = is.count;
  members = is.members;
}

-- ---- the history

-- the last registration after a change that writes a set at its own address
written : (a q : ℕ) (e : RegistryInput) (earlier : List RegistryInput) (new s : Set) (before : List Set) → a ≡ new.address
    → set_at q (with_set new before) ≡ Some s → (a ≡ q → s ≡ new → IsOfLast (e ∷ earlier) q s)
    → (a ≢ q → set_at q before ≡ Some s → IsOfLast (e ∷ earlier) q s) → IsOfLast (e ∷ earlier) q s
written a q e earlier new s before its there here elsewhere =
    let is = sym (at-with q new before) ∙ there in
    by_eq a q
    (λ own. here own (sym (same_Some new s (sym (ap (λ b. cond b (Some new) (set_at q before)) (eq-eqb new.address q (sym its ∙ own))) ∙ is))))
    (λ ne. elsewhere ne (sym (ap (λ b. cond b (Some new) (set_at q before)) (ne_eqb new.address q (λ h. ne (its ∙ h)))) ∙ is))

module _ (a n q : ℕ) (earlier : List RegistryInput) (s : Set) (rest : (t : Set) → set_at q (after_events earlier) ≡ Some t → IsOfLast earlier q t) where
  joins-elsewhere : a ≢ q → set_at q (after_events earlier) ≡ Some s → IsOfLast (Joins a n ∷ earlier) q s
  joins-elsewhere ne there =
      other q (Joins a n) earlier s refl (λ since name. refl)
      (λ since. ap (λ b. member_names q since ++ cond b (n ∷ []) []) (ne_eqb a q ne) ∙ append-nil (member_names q since)) (rest s there)

  joins-last : (o : Option Set) → set_at a (after_events earlier) ≡ o → set_at q (joining o n (after_events earlier)) ≡ Some s
      → IsOfLast (Joins a n ∷ earlier) q s
  joins-last None was there =
      by_eq a q (λ own. none-some (sym was ∙ ap (λ x. set_at x (after_events earlier)) own ∙ there)) (λ ne. joins-elsewhere ne there)
  joins-last (Some t) was there = place_cases (has_place t) refl there
    where
      own-place : (b : Bool) → has_place t ≡ b → a ≡ q → s ≡ cond b (with_member t n) t → IsOfLast (Joins a n ∷ earlier) q s
      own-place b has own is =
          subst (IsOfLast (Joins a n ∷ earlier) q) (sym is)
          (subst (λ x. IsOfLast (Joins x n ∷ earlier) q (cond b (with_member t n) t)) (sym own)
          (joined-last q n earlier t b has (rest t (ap (λ x. set_at x (after_events earlier)) (sym own) ∙ was))))

      place_cases : (b : Bool) → has_place t ≡ b → set_at q (cond b (with_set (with_member t n) (after_events earlier)) (after_events earlier)) ≡ Some s
          → IsOfLast (Joins a n ∷ earlier) q s
      place_cases true has there =
          written a q (Joins a n) earlier (with_member t n) s (after_events earlier) (sym (set_at-address a t (after_events earlier) was)) there
          (own-place true has) joins-elsewhere
      place_cases false has there =
          by_eq a q
          (λ own. own-place false has own (sym (same_Some t s (sym was ∙ ap (λ x. set_at x (after_events earlier)) own ∙ there))))
          (λ ne. joins-elsewhere ne there)

  binds-elsewhere : a ≢ q → set_at q (after_events earlier) ≡ Some s → IsOfLast (Binds a n ∷ earlier) q s
  binds-elsewhere ne there =
      other q (Binds a n) earlier s refl (λ since name. ap (λ b. cond b (Some n) (bound_name q since name)) (ne_eqb a q ne))
      (λ since. refl) (rest s there)

  binds-last : (o : Option Set) → set_at a (after_events earlier) ≡ o → set_at q (binding o n (after_events earlier)) ≡ Some s
      → IsOfLast (Binds a n ∷ earlier) q s
  binds-last None was there =
      by_eq a q (λ own. none-some (sym was ∙ ap (λ x. set_at x (after_events earlier)) own ∙ there)) (λ ne. binds-elsewhere ne there)
  binds-last (Some t) was there =
      written a q (Binds a n) earlier (bound t n) s (after_events earlier) (sym (set_at-address a t (after_events earlier) was)) there
      (λ own is. subst (IsOfLast (Binds a n ∷ earlier) q) (sym is)
      (subst (λ x. IsOfLast (Binds x n ∷ earlier) q (bound t n)) (sym own)
      (bound-last q n earlier t (rest t (ap (λ x. set_at x (after_events earlier)) (sym own) ∙ was)))))
      binds-elsewhere

pub are-last : (events : List RegistryInput) (q : ℕ) (s : Set) → set_at q (after_events events) ≡ Some s → IsOfLast events q s
are-last [] q s there = none-some there
are-last (Masters a None c ∷ earlier) q s there =
    other q (Masters a None c) earlier s refl (λ since name. refl) (λ since. refl) (are-last earlier q s there)
are-last (Masters a (Some h) c ∷ earlier) q s there =
    let rest = are-last earlier q s in
    written a q (Masters a (Some h) c) earlier (mastered a h c) s (after_events earlier) refl there
    (λ own is. first q (Masters a (Some h) c) earlier s (eq-eqb a q own) (ap (λ (x : Set). x.name) is) (ap (λ (x : Set). x.count) is) (ap (λ (x : Set). x.members) is))
    (λ ne was. other q (Masters a (Some h) c) earlier s (ap (λ b. b || false) (ne_eqb a q ne)) (λ since name. refl) (λ since. refl) (rest was))
are-last (Preloads a ∷ earlier) q s there =
    let rest = are-last earlier q s in
    written a q (Preloads a) earlier (preloaded a) s (after_events earlier) refl there
    (λ own is. first q (Preloads a) earlier s (eq-eqb a q own) (ap (λ (x : Set). x.name) is) (ap (λ (x : Set). x.count) is) (ap (λ (x : Set). x.members) is))
    (λ ne was. other q (Preloads a) earlier s (ap (λ b. b || false) (ne_eqb a q ne)) (λ since name. refl) (λ since. refl) (rest was))
are-last (Closes a ∷ earlier) q s there =
    let rest = are-last earlier q s in
    let is = sym (at-without q a (after_events earlier)) ∙ there in
    by_eq a q
    (λ own. none-some (sym (ap (λ b. cond b None (set_at q (after_events earlier))) (eq-eqb a q own)) ∙ is))
    (λ ne. other q (Closes a) earlier s (ne_eqb a q ne) (λ since name. refl) (λ since. refl)
    (rest (sym (ap (λ b. cond b None (set_at q (after_events earlier))) (ne_eqb a q ne)) ∙ is)))
are-last (Joins a n ∷ earlier) q s there = joins-last a n q earlier s (are-last earlier q) (set_at a (after_events earlier)) refl there
are-last (Binds a n ∷ earlier) q s there = binds-last a n q earlier s (are-last earlier q) (set_at a (after_events earlier)) refl there
