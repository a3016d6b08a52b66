-- The addresses of NAMEs, sorted by NAME, after a claim.
use Rattle.std.proofs.Common.{Option, IfSome, ◌≡◌, ◌≢◌, ℕ, ◌<◌, ◌≤◌, Bool, true, false, cond, eqb, [], ◌∷◌, Some, None, is_some, true≢false, inl, inr, refl, sym, ap, subst, ◌∙◌, arith, eq-eqb, ne_eqb}
use Rattle.std.proofs.lemmas.Option.{same_Some}
use Rattle.std.proofs.lemmas.Bool.{eqb-true, cases_order, false≢true}
use Rattle.std.specs.Ordering.{nat_cmp, match_ordering}
use Rattle.std.specs.declared.cmp.Ordering.{Ordering}
use Rattle.std.specs.declared.cmp.Ordering.TheVariants.{Less, Equal, Greater}
use Rattle.std.specs.Cmp.{nat_cmp_is, unsigned_tied}
use Rattle.std.specs.Map.{remove_entry}
use Rattle.std.specs.BTreeMap.{insert_entry, is_at}
use Rattle.vt_names.specs.Claims.{Addresses, AllAbove, IsRisingByName, address_of, holder_of}

-- ---- comparison of two numbers, by two or three cases

pub by_eq : {P : Type 0} (x y : ℕ) → (x ≡ y → P) → (x ≢ y → P) → P
by_eq {P} x y same other = cases (eqb x y) refl
  where
    cases : (b : Bool) → eqb x y ≡ b → P
    cases true e = same (eqb-true x y e)
    cases false e = other (λ is. false≢true (sym e ∙ eq-eqb x y is))

pub by_order : {P : Type 0} (x y : ℕ) → (x < y → P) → (x ≡ y → P) → (y < x → P) → P
by_order {P} x y less same more = elim (cases_order x y) as (λ _. P) [
  | inl e ↦ same e
  | inr apart ↦ elim apart as (λ _. P) [ inl h ↦ less h | inr h ↦ more h ]
]

pub none-some : {P X : Type 0} {x : X} → None ≡ Some x → P
none-some e = absurd (true≢false (sym (ap is_some e)))

pub if-none : {A : Type 0} (P : A → Type 0) (o : Option A) → o ≡ None → IfSome o P
if-none P (Some a) is = none-some (sym is)
if-none P None is = tt

pub if-each : {A : Type 0} (P : A → Type 0) (o : Option A) → ((a : A) → P a) → IfSome o P
if-each P (Some a) all = all a
if-each P None all = tt

-- ---- one entry

pub tied : (n x : ℕ) → is_at (nat_cmp n) x ≡ eqb n x
tied n x = unsigned_tied n x

-- a list after an insertion before its first entry, at it, or after it
pub inserted : (P : Addresses → Type 0) (n a : ℕ) (e : ℕ × ℕ) (es : Addresses)
    → (n < e.0 → P ((n, a) ∷ e ∷ es)) → (n ≡ e.0 → P ((e.0, a) ∷ es)) → (e.0 < n → P (e ∷ insert_entry nat_cmp es n a))
    → P (insert_entry nat_cmp (e ∷ es) n a)
inserted P n a e es less same more =
    let into : Ordering → Addresses = λ r. match_ordering r ((n, a) ∷ e ∷ es) ((e.0, a) ∷ es) (e ∷ insert_entry nat_cmp es n a) in
    by_order n e.0
    (λ h. subst (λ r. P (into r)) (nat_cmp_is n e.0 Less h) (less h))
    (λ h. subst (λ r. P (into r)) (nat_cmp_is n e.0 Equal h) (same h))
    (λ h. subst (λ r. P (into r)) (nat_cmp_is n e.0 Greater h) (more h))

-- a list after the removal of its first entry, or of a later one
pub removed : (P : Addresses → Type 0) (n : ℕ) (e : ℕ × ℕ) (es : Addresses)
    → (n ≡ e.0 → P es) → (n ≢ e.0 → P (e ∷ remove_entry (is_at (nat_cmp n)) es))
    → P (remove_entry (is_at (nat_cmp n)) (e ∷ es))
removed P n e es same other =
    let left : Bool → Addresses = λ b. cond b es (e ∷ remove_entry (is_at (nat_cmp n)) es) in
    by_eq n e.0
    (λ h. subst (λ b. P (left b)) (sym (tied n e.0 ∙ eq-eqb n e.0 h)) (same h))
    (λ h. subst (λ b. P (left b)) (sym (tied n e.0 ∙ ne_eqb n e.0 h)) (other h))

pub address-first : (n : ℕ) (e : ℕ × ℕ) (es : Addresses) → n ≡ e.0 → address_of (e ∷ es) n ≡ Some e.1
address-first n e es h = ap (λ b. cond b (Some e.1) (address_of es n)) (tied n e.0 ∙ eq-eqb n e.0 h)

pub address-later : (n : ℕ) (e : ℕ × ℕ) (es : Addresses) → n ≢ e.0 → address_of (e ∷ es) n ≡ address_of es n
address-later n e es h = ap (λ b. cond b (Some e.1) (address_of es n)) (tied n e.0 ∙ ne_eqb n e.0 h)

pub holder-first : (q : ℕ) (e : ℕ × ℕ) (es : Addresses) → e.1 ≡ q → holder_of (e ∷ es) q ≡ Some e.0
holder-first q e es h = ap (λ b. cond b (Some e.0) (holder_of es q)) (eq-eqb e.1 q h)

pub holder-later : (q : ℕ) (e : ℕ × ℕ) (es : Addresses) → e.1 ≢ q → holder_of (e ∷ es) q ≡ holder_of es q
holder-later q e es h = ap (λ b. cond b (Some e.0) (holder_of es q)) (ne_eqb e.1 q h)

-- ---- rising lists

pub Above-less : (n m : ℕ) (es : Addresses) → n < m → AllAbove m es → AllAbove n es
Above-less n m [] h all = tt
Above-less n m (e ∷ es) h all = (let first = all.0 in omega arith, Above-less n m es h all.1)

Above-insert : (m n a : ℕ) (es : Addresses) → m < n → AllAbove m es → AllAbove m (insert_entry nat_cmp es n a)
Above-insert m n a [] h all = (h, tt)
Above-insert m n a (e ∷ es) h all =
    let rest = Above-insert m n a es h all.1 in
    inserted (AllAbove m) n a e es (λ _. (h, all)) (λ _. all) (λ _. (all.0, rest))

pub Rising-insert : (n a : ℕ) (es : Addresses) → IsRisingByName es → IsRisingByName (insert_entry nat_cmp es n a)
Rising-insert n a [] rising = (tt, tt)
Rising-insert n a (e ∷ es) rising =
    let rest = Rising-insert n a es rising.1 in
    inserted IsRisingByName n a e es
    (λ h. ((h, Above-less n e.0 es h rising.0), rising)) (λ _. rising) (λ h. (Above-insert e.0 n a es h rising.0, rest))

Above-remove : (m n : ℕ) (es : Addresses) → AllAbove m es → AllAbove m (remove_entry (is_at (nat_cmp n)) es)
Above-remove m n [] all = tt
Above-remove m n (e ∷ es) all =
    let rest = Above-remove m n es all.1 in
    removed (AllAbove m) n e es (λ _. all.1) (λ _. (all.0, rest))

pub Rising-remove : (n : ℕ) (es : Addresses) → IsRisingByName es → IsRisingByName (remove_entry (is_at (nat_cmp n)) es)
Rising-remove n [] rising = tt
Rising-remove n (e ∷ es) rising =
    let rest = Rising-remove n es rising.1 in
    removed IsRisingByName n e es (λ _. rising.1) (λ _. (Above-remove e.0 n es rising.0, rest))

pub Above-address : (n : ℕ) (es : Addresses) → AllAbove n es → address_of es n ≡ None
Above-address n [] all = refl
Above-address n (e ∷ es) all =
    let first = all.0 in
    address-later n e es (λ h. omega arith) ∙ Above-address n es all.1

pub Above-found : (m n x : ℕ) (es : Addresses) → AllAbove m es → address_of es n ≡ Some x → m < n
Above-found m n x [] all e = none-some e
Above-found m n x (f ∷ es) all e =
    let rest = Above-found m n x es all.1 in
    let first = all.0 in
    by_eq n f.0 (λ is. omega arith) (λ other. rest (sym (address-later n f es other) ∙ e))

pub Above-holder : (n q h : ℕ) (es : Addresses) → AllAbove n es → holder_of es q ≡ Some h → n < h
Above-holder n q h [] all e = none-some e
Above-holder n q h (f ∷ es) all e =
    let rest = Above-holder n q h es all.1 in
    by_eq f.1 q
    (λ is. subst (λ x. n < x) (same_Some f.0 h (sym (holder-first q f es is) ∙ e)) all.0)
    (λ other. rest (sym (holder-later q f es other) ∙ e))

-- ---- the address of each NAME

pub address-inserted : (n a : ℕ) (es : Addresses) → address_of (insert_entry nat_cmp es n a) n ≡ Some a
address-inserted n a [] = address-first n (n, a) [] refl
address-inserted n a (e ∷ es) =
    let rest = address-inserted n a es in
    inserted (λ l. address_of l n ≡ Some a) n a e es
    (λ _. address-first n (n, a) (e ∷ es) refl)
    (λ is. address-first n (e.0, a) es is)
    (λ h. address-later n e (insert_entry nat_cmp es n a) (λ is. omega arith) ∙ rest)

pub address-inserted_other : (n a m : ℕ) (es : Addresses) → m ≢ n → address_of (insert_entry nat_cmp es n a) m ≡ address_of es m
address-inserted_other n a m [] ne = address-later m (n, a) [] ne
address-inserted_other n a m (e ∷ es) ne =
    let rest = address-inserted_other n a m es ne in
    inserted (λ l. address_of l m ≡ address_of (e ∷ es) m) n a e es
    (λ _. address-later m (n, a) (e ∷ es) ne)
    (λ is. let other : m ≢ e.0 = λ h. ne (h ∙ sym is) in address-later m (e.0, a) es other ∙ sym (address-later m e es other))
    (λ _. by_eq m e.0
    (λ h. address-first m e (insert_entry nat_cmp es n a) h ∙ sym (address-first m e es h))
    (λ h. address-later m e (insert_entry nat_cmp es n a) h ∙ rest ∙ sym (address-later m e es h)))

Above-gone : (n : ℕ) (es : Addresses) → AllAbove n es → address_of es n ≡ None
Above-gone n [] all = refl
Above-gone n (e ∷ es) all =
    let rest = Above-gone n es all.1 in
    let first = all.0 in
    address-later n e es (λ h. omega arith) ∙ rest

pub address-removed : (n : ℕ) (es : Addresses) → IsRisingByName es → address_of (remove_entry (is_at (nat_cmp n)) es) n ≡ None
address-removed n [] rising = refl
address-removed n (e ∷ es) rising =
    let rest = address-removed n es rising.1 in
    removed (λ l. address_of l n ≡ None) n e es
    (λ is. Above-gone n es (subst (λ x. AllAbove x es) (sym is) rising.0))
    (λ ne. address-later n e (remove_entry (is_at (nat_cmp n)) es) ne ∙ rest)

pub address-removed_other : (n m : ℕ) (es : Addresses) → m ≢ n → address_of (remove_entry (is_at (nat_cmp n)) es) m ≡ address_of es m
address-removed_other n m [] ne = refl
address-removed_other n m (e ∷ es) ne =
    let rest = address-removed_other n m es ne in
    removed (λ l. address_of l m ≡ address_of (e ∷ es) m) n e es
    (λ is. sym (address-later m e es (λ h. ne (h ∙ sym is))))
    (λ _. by_eq m e.0
    (λ h. address-first m e (remove_entry (is_at (nat_cmp n)) es) h ∙ sym (address-first m e es h))
    (λ h. address-later m e (remove_entry (is_at (nat_cmp n)) es) h ∙ rest ∙ sym (address-later m e es h)))

-- ---- the holder of each address

pub holder-address : (q n : ℕ) (es : Addresses) → IsRisingByName es → holder_of es q ≡ Some n → address_of es n ≡ Some q
holder-address q n [] rising e = none-some e
holder-address q n (f ∷ es) rising e =
    let rest = holder-address q n es rising.1 in
    by_eq f.1 q
    (λ is. address-first n f es (sym (same_Some f.0 n (sym (holder-first q f es is) ∙ e))) ∙ ap Some is)
    (λ other.
    let there = sym (holder-later q f es other) ∙ e in
    let above = Above-holder f.0 q n es rising.0 there in
    address-later n f es (λ h. omega arith) ∙ rest there)

pub holder-inserted_other : (n a q : ℕ) (es : Addresses) → q ≢ a → holder_of es q ≢ Some n
    → holder_of (insert_entry nat_cmp es n a) q ≡ holder_of es q
holder-inserted_other n a q [] ne not = holder-later q (n, a) [] (λ h. ne (sym h))
holder-inserted_other n a q (e ∷ es) ne not =
    let rest = holder-inserted_other n a q es ne in
    inserted (λ l. holder_of l q ≡ holder_of (e ∷ es) q) n a e es
    (λ _. holder-later q (n, a) (e ∷ es) (λ h. ne (sym h)))
    (λ is.
    holder-later q (e.0, a) es (λ h. ne (sym h))
    ∙ sym (holder-later q e es (λ h. not (holder-first q e es h ∙ ap Some (sym is)))))
    (λ _. by_eq e.1 q
    (λ h. holder-first q e (insert_entry nat_cmp es n a) h ∙ sym (holder-first q e es h))
    (λ h. holder-later q e (insert_entry nat_cmp es n a) h ∙ rest (λ x. not (holder-later q e es h ∙ x)) ∙ sym (holder-later q e es h)))

pub holder-removed_other : (n q : ℕ) (es : Addresses) → holder_of es q ≢ Some n
    → holder_of (remove_entry (is_at (nat_cmp n)) es) q ≡ holder_of es q
holder-removed_other n q [] not = refl
holder-removed_other n q (e ∷ es) not =
    let rest = holder-removed_other n q es in
    removed (λ l. holder_of l q ≡ holder_of (e ∷ es) q) n e es
    (λ is. sym (holder-later q e es (λ h. not (holder-first q e es h ∙ ap Some (sym is)))))
    (λ _. by_eq e.1 q
    (λ h. holder-first q e (remove_entry (is_at (nat_cmp n)) es) h ∙ sym (holder-first q e es h))
    (λ h. holder-later q e (remove_entry (is_at (nat_cmp n)) es) h ∙ rest (λ x. not (holder-later q e es h ∙ x)) ∙ sym (holder-later q e es h)))

-- ---- the holder is the least NAME

pub no-holder : (q : ℕ) (es : Addresses) → holder_of es q ≡ None → (n : ℕ) → address_of es n ≢ Some q
no-holder q [] none n = λ e. none-some e
no-holder q (f ∷ es) none n =
    let rest = no-holder q es in
    by_eq f.1 q
    (λ is. none-some (sym none ∙ holder-first q f es is))
    (λ other. by_eq n f.0
    (λ is. λ e. other (same_Some f.1 q (sym (address-first n f es is) ∙ e)))
    (λ ne. λ e. rest (sym (holder-later q f es other) ∙ none) n (sym (address-later n f es ne) ∙ e)))

pub least-holder : (q h : ℕ) (es : Addresses) → IsRisingByName es → holder_of es q ≡ Some h → (n : ℕ) → address_of es n ≡ Some q → h ≤ n
least-holder q h [] rising is n e = none-some e
least-holder q h (f ∷ es) rising is n e =
    let rest = least-holder q h es rising.1 in
    by_eq f.1 q
    (λ here.
    let first = same_Some f.0 h (sym (holder-first q f es here) ∙ is) in
    by_eq n f.0
    (λ same. omega arith)
    (λ ne. let above = Above-found f.0 n q es rising.0 (sym (address-later n f es ne) ∙ e) in omega arith))
    (λ other. by_eq n f.0
    (λ same. absurd (other (same_Some f.1 q (sym (address-first n f es same) ∙ e))))
    (λ ne. rest (sym (holder-later q f es other) ∙ is) n (sym (address-later n f es ne) ∙ e)))
