-- The NAMEs of each address in the index, after a claim.
use Rattle.std.proofs.Common.{◌≡◌, ◌≢◌, ℕ, zero, suc, ◌≤◌, ◌++◌, ◌<◌, Bool, true, false, true≢false, cond, ◌&&◌, eqb, eq-eqb, ne_eqb, List, [], ◌∷◌, length, get_or, Option, Some, None, refl, sym, ap, ◌∙◌, arith}
use Rattle.std.proofs.lemmas.Option.{same_Some}
use Rattle.std.proofs.lemmas.Bool.{eqb-true}
use Rattle.std.proofs.lemmas.List.{get_or_default, get_or_past}
use Rattle.std.proofs.lemmas.Map.Keys.{le_from_not_gt}
use Rattle.std.specs.List.{list_any}
use Rattle.std.specs.Option.{option_eq}
use Rattle.std.specs.Ordering.{nat_cmp, is_gt}
use Rattle.std.specs.Map.{remove_entry}
use Rattle.std.specs.BTreeMap.{insert_entry, is_at}
use Rattle.std.specs.BTreeSet.{BTreeSet, contains}
use Rattle.vt_names.specs.Claims.{Addresses, IsRisingByName, NameSets, AreHolders, ChangesOnly, has_name, with_address, address_of, holder_of}
use Rattle.vt_names.proofs.AddressesAfterClaim.{by_eq, none-some, inserted, removed, address-first, address-later, Above-less, Above-address, holder-address, no-holder, least-holder}
use Rattle.vt_names.proofs.HoldersAfterClaims.{Rising-with, address-with}

pub same_option : (o p : Option ℕ) → option_eq eqb o p ≡ true → o ≡ p
same_option None None e = refl
same_option None (Some y) e = absurd (true≢false (sym e))
same_option (Some x) None e = absurd (true≢false (sym e))
same_option (Some x) (Some y) e = ap Some (eqb-true x y e)

pub option_same : (o : Option ℕ) → option_eq eqb o o ≡ true
option_same None = refl
option_same (Some x) = eq-eqb x x refl

-- ---- before the first claim

pub no-holders : (sets : NameSets) → ((q : ℕ) → q < 256 → (get_or sets q (record { keys = [] })).keys ≡ []) → AreHolders sets []
no-holders sets none = record { rising = tt; exact = λ q n small. ap (list_any (is_at (nat_cmp n))) (none q small) }

-- ---- a claim of an address by the NAME that already has it

removed-none : (n : ℕ) (es : Addresses) → address_of es n ≡ None → remove_entry (is_at (nat_cmp n)) es ≡ es
removed-none n [] none = refl
removed-none n (e ∷ es) none =
    let rest = removed-none n es in
    removed (λ l. l ≡ e ∷ es) n e es
    (λ is. none-some (sym none ∙ address-first n e es is))
    (λ ne. ap (λ l. e ∷ l) (rest (sym (address-later n e es ne) ∙ none)))

inserted-same : (n a : ℕ) (es : Addresses) → IsRisingByName es → address_of es n ≡ Some a → insert_entry nat_cmp es n a ≡ es
inserted-same n a [] rising found = none-some found
inserted-same n a (e ∷ es) rising found =
    let rest = inserted-same n a es rising.1 in
    inserted (λ l. l ≡ e ∷ es) n a e es
    (λ h. none-some (sym (address-later n e es (λ is. omega arith) ∙ Above-address n es (Above-less n e.0 es h rising.0)) ∙ found))
    (λ is. ap (λ x. (e.0, x) ∷ es) (same_Some a e.1 (sym found ∙ address-first n e es is)))
    (λ h. ap (λ l. e ∷ l) (rest (sym (address-later n e es (λ is. omega arith)) ∙ found)))

pub with-same : (es : Addresses) (n : ℕ) (o : Option ℕ) → IsRisingByName es → address_of es n ≡ o → with_address es n o ≡ es
with-same es n None rising is = removed-none n es is
with-same es n (Some a) rising is = inserted-same n a es rising is

-- ---- the holder is the least NAME of the set

-- the membership of a NAME in a set, read with any default
read : (sets : NameSets) (q n : ℕ) (d : BTreeSet ℕ) → q < length sets → contains nat_cmp (get_or sets q d) n ≡ has_name sets q n
read sets q n d small = ap (λ s. contains nat_cmp s n) (get_or_default sets q d (record { keys = [] }) small)

-- an address without a set has no NAMEs
pub has-past : (sets : NameSets) (q n : ℕ) → length sets ≤ q → has_name sets q n ≡ false
has-past sets q n past = ap (λ (s : BTreeSet ℕ). contains nat_cmp s n) (get_or_past sets q (record { keys = [] }) past)

-- one more set without NAMEs changes nothing
pub has-more : (sets : NameSets) (new : BTreeSet ℕ) (q n : ℕ) → new.keys ≡ [] → has_name (sets ++ new ∷ []) q n ≡ has_name sets q n
has-more [] new zero n none = ap (list_any (is_at (nat_cmp n))) none
has-more [] new (suc q) n none = refl
has-more (s ∷ sets) new zero n none = refl
has-more (s ∷ sets) new (suc q) n none = has-more sets new q n none

-- the holders by sets that have the same NAMEs
pub are-same : (old new : NameSets) (es : Addresses) → ((q n : ℕ) → has_name new q n ≡ has_name old q n) → AreHolders old es → AreHolders new es
are-same old new es same are = record { rising = are.rising; exact = λ q n small. same q n ∙ are.exact q n small }

no-keys : (p : ℕ → Bool) (keys : List ℕ) → (0 < length keys → ⊥) → list_any p keys ≡ false
no-keys p [] none = refl
no-keys p (k ∷ keys) none = absurd (none (omega arith))

has-address : (sets : NameSets) (es : Addresses) (q n : ℕ) → AreHolders sets es → q < 256 → has_name sets q n ≡ true → address_of es n ≡ Some q
has-address sets es q n are small has = same_option (address_of es n) (Some q) (sym (are.exact q n small) ∙ has)

address-has : (sets : NameSets) (es : Addresses) (q n : ℕ) → AreHolders sets es → q < 256 → address_of es n ≡ Some q → has_name sets q n ≡ true
address-has sets es q n are small is = are.exact q n small ∙ ap (λ o. option_eq eqb o (Some q)) is ∙ option_same (Some q)

pub holder-none : (sets : NameSets) (es : Addresses) (q : ℕ) (d : BTreeSet ℕ) → AreHolders sets es → q < length sets → q < 256
    → (0 < length (get_or sets q d).keys → ⊥) → None ≡ holder_of es q
holder-none sets es q d are inside small none = cases (holder_of es q) refl
  where
    cases : (o : Option ℕ) → holder_of es q ≡ o → None ≡ o
    cases None is = refl
    cases (Some h) is =
        let kept = address-has sets es q h are small (holder-address q h es are.rising is) in
        absurd (true≢false (sym kept ∙ sym (read sets q h d inside) ∙ no-keys (is_at (nat_cmp h)) (get_or sets q d).keys none))

-- an address without a set has no holder
pub holder-past : (sets : NameSets) (es : Addresses) (q : ℕ) → AreHolders sets es → length sets ≤ q → q < 256 → None ≡ holder_of es q
holder-past sets es q are past small = cases (holder_of es q) refl
  where
    cases : (o : Option ℕ) → holder_of es q ≡ o → None ≡ o
    cases None is = refl
    cases (Some h) is =
        let kept = address-has sets es q h are small (holder-address q h es are.rising is) in
        absurd (true≢false (sym kept ∙ has-past sets q h past))

pub holder-some : (sets : NameSets) (es : Addresses) (q h : ℕ) (d : BTreeSet ℕ) → AreHolders sets es → q < length sets → q < 256
    → contains nat_cmp (get_or sets q d) h ≡ true → ((n : ℕ) → contains nat_cmp (get_or sets q d) n ≡ true → is_gt (nat_cmp h n) ≡ false)
    → Some h ≡ holder_of es q
holder-some sets es q h d are inside small is least = cases (holder_of es q) refl
  where
    claimed : address_of es h ≡ Some q
    claimed = has-address sets es q h are small (sym (read sets q h d inside) ∙ is)

    cases : (o : Option ℕ) → holder_of es q ≡ o → Some h ≡ o
    cases None none = absurd (no-holder q es none h claimed)
    cases (Some x) first =
        let kept = address-has sets es q x are small (holder-address q x es are.rising first) in
        let above = le_from_not_gt h x (least x (read sets q x d inside ∙ kept)) in
        let below = least-holder q x es are.rising first h claimed in
        ap Some (omega arith)

-- ---- a NAME that changes its address

moved : (left claimed : Option ℕ) (q : ℕ) → claimed ≢ left
    → cond (option_eq eqb left (Some q)) false (cond (option_eq eqb claimed (Some q)) true (option_eq eqb left (Some q))) ≡ option_eq eqb claimed (Some q)
moved left claimed q ne = cases (option_eq eqb left (Some q)) (option_eq eqb claimed (Some q)) refl refl
  where
    cases : (l c : Bool) → option_eq eqb left (Some q) ≡ l → option_eq eqb claimed (Some q) ≡ c → cond l false (cond c true l) ≡ c
    cases true true l c = absurd (ne (same_option claimed (Some q) c ∙ sym (same_option left (Some q) l)))
    cases true false l c = refl
    cases false true l c = refl
    cases false false l c = refl

at-name : (l c b : Bool) → b ≡ l → cond (l && true) false (cond (c && true) true b) ≡ cond l false (cond c true l)
at-name true c b is = refl
at-name false true b is = refl
at-name false false b is = is

at-other : (l c b : Bool) → cond (l && false) false (cond (c && false) true b) ≡ b
at-other true true b = refl
at-other true false b = refl
at-other false true b = refl
at-other false false b = refl

pub goes : (sets entered gone : NameSets) (before : Addresses) (name : ℕ) (left claimed : Option ℕ) → AreHolders sets before
    → address_of before name ≡ left → claimed ≢ left → ChangesOnly sets entered claimed name true → ChangesOnly entered gone left name false
    → AreHolders gone (with_address before name claimed)
goes sets entered gone before name left claimed are was ne enters leaves = record {
  rising = Rising-with before name claimed are.rising;
  exact = λ q m small.
      rw (address-with before name claimed m are.rising, leaves q m small, enters q m small, are.exact q m small) (each q m);
}
  where
    each : (q m : ℕ) → cond (option_eq eqb left (Some q) && eqb m name) false (cond (option_eq eqb claimed (Some q) && eqb m name) true (option_eq eqb (address_of before m) (Some q)))
        ≡ option_eq eqb (cond (eqb m name) claimed (address_of before m)) (Some q)
    each q m =
        let l = option_eq eqb left (Some q) in
        let c = option_eq eqb claimed (Some q) in
        let b = option_eq eqb (address_of before m) (Some q) in
        by_eq m name
        (λ is. rw (eq-eqb m name is) (at-name l c b (ap (λ o. option_eq eqb o (Some q)) (ap (address_of before) is ∙ was)) ∙ moved left claimed q ne))
        (λ other. rw (ne_eqb m name other) (at-other l c b))
