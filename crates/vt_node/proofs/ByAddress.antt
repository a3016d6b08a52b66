-- Values by address after a write at one address.
use Rattle.std.proofs.Common.{◌≡◌, ◌≢◌, ℕ, Bool, true, false, cond, eqb, List, length, get_or, ◌<◌, inl, inr, Option, None, refl, sym, ap, subst, ◌∙◌, eq-eqb, ne_eqb}
use Rattle.std.proofs.lemmas.Bool.{cases_lt}
use Rattle.std.proofs.Math.ListN.{get_or-eq_default}
use Rattle.std.proofs.lemmas.List.{get_or-set_same, get_or-set_other}
use Rattle.std.specs.Prelude.{slice_set}
use Rattle.vt_node.specs.AddressFunctions.{with_at}
use Rattle.vt_names.proofs.AddressesAfterClaim.{by_eq}

-- A value by address is a function from addresses, or a list with an entry for each of the 256 addresses.

-- ---- functions from addresses

pub at-own : {X : Type 0} (a : ℕ) (places : ℕ → X) (x : X) → with_at a x places a ≡ x
at-own a places x = ap (λ b. cond b x (places a)) (eq-eqb a a refl)

pub at-other : {X : Type 0} (a b : ℕ) (places : ℕ → X) (x : X) → b ≢ a → with_at a x places b ≡ places b
at-other a b places x ne = ap (λ c. cond c x (places b)) (ne_eqb b a ne)

pub places-same : {X : Type 0} (a : ℕ) (places : ℕ → X) (x : X) → places a ≡ x → with_at a x places ≡ places
places-same a places x e = λ i b. at b i
  where
    at : (b : ℕ) → with_at a x places b ≡ places b
    at b = by_eq b a (λ is. ap (with_at a x places) is ∙ at-own a places x ∙ sym e ∙ ap places (sym is)) (at-other a b places x)

pub places-twice : {X : Type 0} (a : ℕ) (places : ℕ → X) (x y : X) → with_at a x (with_at a y places) ≡ with_at a x places
places-twice a places x y = λ i b. at b i
  where
    cases : (b : ℕ) (same : Bool) → cond same x (cond same y (places b)) ≡ cond same x (places b)
    cases b true = refl
    cases b false = refl

    at : (b : ℕ) → with_at a x (with_at a y places) b ≡ with_at a x places b
    at b = cases b (eqb b a)

-- a function that differs from another at one address at most
pub places-written : {X : Type 0} (a : ℕ) (old new : ℕ → X) (x : X) → new a ≡ x → ((b : ℕ) → b ≢ a → new b ≡ old b) → new ≡ with_at a x old
places-written a old new x here others = λ i b. at b i
  where
    at : (b : ℕ) → new b ≡ with_at a x old b
    at b =
        by_eq b a
        (λ is. ap new is ∙ here ∙ sym (ap (λ c. cond c x (old b)) (eq-eqb b a is)))
        (λ ne. others b ne ∙ sym (at-other a b old x ne))

-- ---- lists with an entry for each address

-- a list of defaults has the default at every index
pub all-default : {X : Type 0} (places : List X) (d : X) → length places ≡ 256 → ((q : ℕ) → q < 256 → get_or places q d ≡ d)
    → (address : ℕ) → get_or places address d ≡ d
all-default places d long each address = elim (cases_lt address (length places)) as (λ _. get_or places address d ≡ d) [
  | inl h ↦ each address (subst (λ n. address < n) long h)
  | inr h ↦ get_or-eq_default places d h
]

-- the value at each address after a write
pub place-written : {X : Type 0} (places : List (Option X)) (a n : ℕ) (o : Option X) → n ≡ a → a < length places
    → (λ (q : ℕ). get_or (slice_set places n o) q None) ≡ with_at a o (λ q. get_or places q None)
place-written places a n o is within = ap (λ k. λ (q : ℕ). get_or (slice_set places k o) q None) is ∙ (λ i q. at q i)
  where
    at : (q : ℕ) → get_or (slice_set places a o) q None ≡ with_at a o (λ r. get_or places r None) q
    at q =
        by_eq q a
        (λ same.
        ap (λ r. get_or (slice_set places a o) r None) same ∙ get_or-set_same places a o None within
        ∙ sym (ap (λ b. cond b o (get_or places q None)) (eq-eqb q a same)))
        (λ ne. get_or-set_other places a q o None ne ∙ sym (at-other a q (λ r. get_or places r None) o ne))
