-- Lists of acts: the acts at one address, and predicates on each act.
use Rattle.std.proofs.Common.{◌≡◌, ℕ, zero, suc, Bool, true, false, cond, eqb, List, [], ◌∷◌, ◌++◌, map, refl, ap}
use Rattle.std.specs.List.{filter}
use Rattle.vt_can.specs.transport.Sessions.{each_below}
use Rattle.vt_names.specs.Registry.{Set}
use Rattle.vt_server.specs.state.AddressViews.{Act, FallsSilent}

-- ---- the acts at one address

abbrev pub of : ℕ → List (ℕ × Act) → List Act
of a [] = []
of a (h ∷ hs) = cond (eqb h.0 a) (h.1 ∷ of a hs) (of a hs)

pub of-append : (a : ℕ) (xs ys : List (ℕ × Act)) → of a (xs ++ ys) ≡ of a xs ++ of a ys
of-append a [] ys = refl
of-append a (x ∷ xs) ys = cases (eqb x.0 a) (of-append a xs ys)
  where
    cases : (b : Bool) → of a (xs ++ ys) ≡ of a xs ++ of a ys → cond b (x.1 ∷ of a (xs ++ ys)) (of a (xs ++ ys)) ≡ cond b (x.1 ∷ of a xs) (of a xs) ++ of a ys
    cases true rest = ap (λ l. x.1 ∷ l) rest
    cases false rest = rest

-- ---- predicates on each act

abbrev pub AllActs : (Act → Type 0) → List (ℕ × Act) → Type 0
AllActs P [] = Unit {0}
AllActs P (h ∷ hs) = P h.1 × AllActs P hs

pub all-append : (P : Act → Type 0) (hs ks : List (ℕ × Act)) → AllActs P hs → AllActs P ks → AllActs P (hs ++ ks)
all-append P [] ks first second = second
all-append P (h ∷ hs) ks first second = (first.0, all-append P hs ks first.1 second)

pub all-below : (P : Act → Type 0) (holds : ℕ → Bool) (what : Act) (n : ℕ) → P what → AllActs P (each_below holds what n)
unfolding each_below
all-below P holds what zero is = tt
all-below P holds what (suc n) is = all-append P (each_below holds what n) (cond (holds n) ((n, what) ∷ []) []) (all-below P holds what n is) (cases (holds n))
  where
    cases : (b : Bool) → AllActs P (cond b ((n, what) ∷ []) [])
    cases true = (is, tt)
    cases false = tt

pub all-silences : (P : Act → Type 0) (f : Set → Bool) (sets : List Set) → P FallsSilent → AllActs P (map (λ set. (set.address, FallsSilent)) (filter f sets))
all-silences P f [] is = tt
all-silences P f (set ∷ sets) is = cases (all-silences P f sets is) (f set)
  where
    cases : AllActs P (map (λ set. (set.address, FallsSilent)) (filter f sets)) → (b : Bool)
        → AllActs P (map (λ (x : Set). (x.address, FallsSilent)) (cond b (set ∷ filter f sets) (filter f sets)))
    cases rest true = (is, rest)
    cases rest false = rest
