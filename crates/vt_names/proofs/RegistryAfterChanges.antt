-- The addresses, the order and the members of the sets after all changes of the registry.
use Rattle.std.proofs.Common.{◌≡◌, ◌≢◌, ℕ, zero, suc, ◌<◌, ◌≤◌, Bool, true, false, cond, eqb, List, [], ◌∷◌, ◌++◌, ◌+◌, length, Option, Some, None, is_some, true≢false, refl, sym, ap, subst, ◌∙◌, arith, eq-eqb, ne_eqb}
use Rattle.std.proofs.lemmas.Option.{same_Some}
use Rattle.std.proofs.lemmas.Bool.{ltb-true}
use Rattle.std.proofs.lemmas.List.{length-append}
use Rattle.vt_names.specs.Registry.{Set, set_at, with_set, without, joining, binding, preloaded, mastered, with_member, bound, has_place}
use Rattle.vt_names.specs.Registrations.{RegistryInput, Masters, Joins, Closes, Preloads, Binds, registers, closes, since, registered_at, AreRising, after_events, times_of, AreWithin, SetsAreRegistered}
use Rattle.vt_names.proofs.AddressesAfterClaim.{by_eq, none-some}
use Rattle.vt_names.proofs.LastRegistration.{are-last}
use Rattle.vt_names.proofs.SetsByAddress.{set_at-first, set_at-later, with_set-first, with_set-later, without-first, without-later, set_at-address, at-with, at-without}

-- ---- fewer members than the count

within-with : (new : Set) (sets : List Set) → length new.members < new.count → AreWithin sets → AreWithin (with_set new sets)
within-with new [] h w = (h, tt)
within-with new (s ∷ sets) h w =
    let rest = within-with new sets h w.1 in
    by_eq s.address new.address
    (λ is. subst AreWithin (sym (with_set-first new s sets is)) (h, w.1))
    (λ ne. subst AreWithin (sym (with_set-later new s sets ne)) (w.0, rest))

within-without : (a : ℕ) (sets : List Set) → AreWithin sets → AreWithin (without a sets)
within-without a [] w = tt
within-without a (s ∷ sets) w =
    let rest = within-without a sets w.1 in
    by_eq s.address a
    (λ is. subst AreWithin (sym (without-first a s sets is)) rest)
    (λ ne. subst AreWithin (sym (without-later a s sets ne)) (w.0, rest))

within-at : (a : ℕ) (s : Set) (sets : List Set) → set_at a sets ≡ Some s → AreWithin sets → length s.members < s.count
within-at a s [] there w = none-some there
within-at a s (t ∷ sets) there w =
    let rest = within-at a s sets in
    by_eq t.address a
    (λ is. subst (λ (x : Set). length x.members < x.count) (same_Some t s (sym (set_at-first a t sets is) ∙ there)) w.0)
    (λ ne. rest (sym (set_at-later a t sets ne) ∙ there) w.1)

counted-some : (b : Bool) (c : ℕ) → eqb c 0 ≡ b → 0 < cond b 1 c
counted-some true c e = (grind (arith))
counted-some false zero e = absurd (true≢false e)
counted-some false (suc c) e = (grind (arith))

joined-within : (s : Set) (name : ℕ) → has_place s ≡ true → length (s.members ++ name ∷ []) < s.count
joined-within s name e = subst (λ n. n < s.count) (sym (length-append s.members (name ∷ []) ∙ plus)) (ltb-true (suc (length s.members)) s.count e)
  where
    plus : length s.members + 1 ≡ suc (length s.members)
    plus = (grind (arith))

within-joining : (b : Bool) (s : Set) (name : ℕ) (sets : List Set) → has_place s ≡ b → AreWithin sets → AreWithin (cond b (with_set (with_member s name) sets) sets)
within-joining true s name sets e w = within-with (with_member s name) sets (joined-within s name e) w
within-joining false s name sets e w = w

within-joined : (o : Option Set) (name : ℕ) (sets : List Set) → AreWithin sets → AreWithin (joining o name sets)
within-joined None name sets w = w
within-joined (Some s) name sets w = within-joining (has_place s) s name sets refl w

within-bound : (a : ℕ) (o : Option Set) (name : ℕ) (sets : List Set) → set_at a sets ≡ o → AreWithin sets → AreWithin (binding o name sets)
within-bound a None name sets there w = w
within-bound a (Some s) name sets there w = within-with (bound s name) sets (within-at a s sets there w) w

pub are-within : (events : List RegistryInput) → AreWithin (after_events events)
are-within [] = tt
are-within (Masters a None c ∷ earlier) = are-within earlier
are-within (Masters a (Some h) c ∷ earlier) = within-with (mastered a h c) (after_events earlier) (counted-some (eqb c 0) c refl) (are-within earlier)
are-within (Joins a n ∷ earlier) = within-joined (set_at a (after_events earlier)) n (after_events earlier) (are-within earlier)
are-within (Closes a ∷ earlier) = within-without a (after_events earlier) (are-within earlier)
are-within (Preloads a ∷ earlier) = within-with (preloaded a) (after_events earlier) (grind (arith)) (are-within earlier)
are-within (Binds a n ∷ earlier) = within-bound a (set_at a (after_events earlier)) n (after_events earlier) refl (are-within earlier)

-- ---- the addresses with a set

is-with : (b : Bool) (new : Set) (o : Option Set) (t : ℕ) (p : Option ℕ) → is_some o ≡ is_some p
    → is_some (cond b (Some new) o) ≡ is_some (cond b (Some t) p)
is-with true new o t p e = refl
is-with false new o t p e = e

is-without : (b : Bool) (o : Option Set) (p : Option ℕ) → is_some o ≡ is_some p → is_some (cond b None o) ≡ is_some (cond b None p)
is-without true o p e = refl
is-without false o p e = e

-- the replacement of a set changes no address with a set
is-same : (a q : ℕ) (s new : Set) (sets : List Set) → set_at a sets ≡ Some s → new.address ≡ a
    → is_some (set_at q (with_set new sets)) ≡ is_some (set_at q sets)
is-same a q s new sets there same =
    ap is_some (at-with q new sets)
    ∙ by_eq new.address q
    (λ own. ap (λ b. is_some (cond b (Some new) (set_at q sets))) (eq-eqb new.address q own)
    ∙ sym (ap is_some (subst (λ x. set_at x sets ≡ Some s) (sym same ∙ own) there)))
    (λ other. ap (λ b. is_some (cond b (Some new) (set_at q sets))) (ne_eqb new.address q other))

is-joining : (b : Bool) (a q n : ℕ) (s : Set) (sets : List Set) → set_at a sets ≡ Some s
    → is_some (set_at q (cond b (with_set (with_member s n) sets) sets)) ≡ is_some (set_at q sets)
is-joining true a q n s sets there = is-same a q s (with_member s n) sets there (set_at-address a s sets there)
is-joining false a q n s sets there = refl

is-joined : (a q n : ℕ) (o : Option Set) (sets : List Set) → set_at a sets ≡ o → is_some (set_at q (joining o n sets)) ≡ is_some (set_at q sets)
is-joined a q n None sets there = refl
is-joined a q n (Some s) sets there = is-joining (has_place s) a q n s sets there

is-bound : (a q n : ℕ) (o : Option Set) (sets : List Set) → set_at a sets ≡ o → is_some (set_at q (binding o n sets)) ≡ is_some (set_at q sets)
is-bound a q n None sets there = refl
is-bound a q n (Some s) sets there = is-same a q s (bound s n) sets there (set_at-address a s sets there)

pub are-there : (events : List RegistryInput) (q : ℕ) → is_some (set_at q (after_events events)) ≡ is_some (registered_at events q)
are-there [] q = refl
are-there (Masters a None c ∷ earlier) q = are-there earlier q
are-there (Masters a (Some h) c ∷ earlier) q =
    ap is_some (at-with q (mastered a h c) (after_events earlier))
    ∙ is-with (eqb a q) (mastered a h c) (set_at q (after_events earlier)) (since (registered_at earlier q) (length earlier)) (registered_at earlier q) (are-there earlier q)
are-there (Joins a n ∷ earlier) q = is-joined a q n (set_at a (after_events earlier)) (after_events earlier) refl ∙ are-there earlier q
are-there (Closes a ∷ earlier) q =
    ap is_some (at-without q a (after_events earlier)) ∙ is-without (eqb a q) (set_at q (after_events earlier)) (registered_at earlier q) (are-there earlier q)
are-there (Preloads a ∷ earlier) q =
    ap is_some (at-with q (preloaded a) (after_events earlier))
    ∙ is-with (eqb a q) (preloaded a) (set_at q (after_events earlier)) (since (registered_at earlier q) (length earlier)) (registered_at earlier q) (are-there earlier q)
are-there (Binds a n ∷ earlier) q = is-bound a q n (set_at a (after_events earlier)) (after_events earlier) refl ∙ are-there earlier q

-- ---- the order

below-cases : (b d : Bool) (o : Option ℕ) (n t : ℕ) → ((u : ℕ) → o ≡ Some u → u < n)
    → cond b (Some (since o n)) (cond d None o) ≡ Some t → t < suc n
below-cases true d None n t small e = subst (λ x. x < suc n) (same_Some n t e) (grind (arith))
below-cases true d (Some u) n t small e = subst (λ x. x < suc n) (same_Some u t e) (later u n (small u refl))
  where
    later : (u n : ℕ) → u < n → u < suc n
    later u n h = (grind (arith))
below-cases false true o n t small e = none-some e
below-cases false false o n t small e = later t n (small t e)
  where
    later : (u n : ℕ) → u < n → u < suc n
    later u n h = (grind (arith))

below : (events : List RegistryInput) (q t : ℕ) → registered_at events q ≡ Some t → t < length events
below [] q t e = none-some e
below (event ∷ earlier) q t e =
    below-cases (registers q event) (closes q event) (registered_at earlier q) (length earlier) t (below earlier q) e

weaken : (k m : ℕ) (times : List (Option ℕ)) → k ≤ m → AreRising m times → AreRising k times
weaken k m [] h r = tt
weaken k m (None ∷ times) h r = r
weaken k m (Some t ∷ times) h r = (less, r.1)
  where
    least : m ≤ t
    least = r.0

    less : k ≤ t
    less = (grind (arith))

-- the replacement of a set keeps the order
times-same : (at : ℕ → Option ℕ) (a : ℕ) (s new : Set) (sets : List Set) → set_at a sets ≡ Some s → new.address ≡ a
    → times_of at (with_set new sets) ≡ times_of at sets
times-same at a s new [] there same = none-some there
times-same at a s new (t ∷ sets) there same =
    let rest = times-same at a s new sets in
    by_eq t.address new.address
    (λ is. ap (times_of at) (with_set-first new t sets is) ∙ ap (λ x. at x ∷ times_of at sets) (sym is))
    (λ ne. ap (times_of at) (with_set-later new t sets ne)
    ∙ ap (λ l. at t.address ∷ l) (rest (sym (set_at-later a t sets (λ h. ne (h ∙ sym same))) ∙ there) same))

times-ext : (at was : ℕ → Option ℕ) (sets : List Set) → ((q : ℕ) → at q ≡ was q) → times_of at sets ≡ times_of was sets
times-ext at was [] same = refl
times-ext at was (s ∷ sets) same =
    ap (λ o. o ∷ times_of at sets) (same s.address) ∙ ap (λ l. was s.address ∷ l) (times-ext at was sets same)

-- a new set comes last
rising-last : (at was : ℕ → Option ℕ) (k n : ℕ) (new : Set) (sets : List Set) → k ≤ n → set_at new.address sets ≡ None
    → at new.address ≡ Some n → ((q : ℕ) → q ≢ new.address → at q ≡ was q) → ((q t : ℕ) → was q ≡ Some t → t < n)
    → AreRising k (times_of was sets) → AreRising k (times_of at (with_set new sets))
rising-last at was k n new [] h none own others small r = subst (λ o. AreRising k (o ∷ [])) (sym own) (h, tt)
rising-last at was k n new (s ∷ sets) h none own others small r =
    by_eq s.address new.address
    (λ is. none-some (sym none ∙ set_at-first new.address s sets is))
    (λ ne. subst (λ l. AreRising k (times_of at l)) (sym (with_set-later new s sets ne))
    (subst (λ o. AreRising k (o ∷ times_of at (with_set new sets))) (sym (others s.address ne))
    (first (λ k h none r. rising-last at was k n new sets h none own others small r) (was s.address) refl r
    (sym (set_at-later new.address s sets ne) ∙ none))))
  where
    first : ((k : ℕ) → k ≤ n → set_at new.address sets ≡ None → AreRising k (times_of was sets) → AreRising k (times_of at (with_set new sets)))
        → (o : Option ℕ) → was s.address ≡ o → AreRising k (o ∷ times_of was sets) → set_at new.address sets ≡ None
        → AreRising k (o ∷ times_of at (with_set new sets))
    first rest None e r none = r
    first rest (Some t) e r none = (r.0, rest (suc t) (small s.address t e) none r.1)

rising-without : (at was : ℕ → Option ℕ) (k a : ℕ) (sets : List Set) → ((q : ℕ) → q ≢ a → at q ≡ was q)
    → AreRising k (times_of was sets) → AreRising k (times_of at (without a sets))
rising-without at was k a [] others r = tt
rising-without at was k a (s ∷ sets) others r =
    let rest : (k : ℕ) → AreRising k (times_of was sets) → AreRising k (times_of at (without a sets)) =
    λ k r. rising-without at was k a sets others r in
    by_eq s.address a
    (λ is. subst (λ l. AreRising k (times_of at l)) (sym (without-first a s sets is)) (gone rest (was s.address) r))
    (λ ne. subst (λ l. AreRising k (times_of at l)) (sym (without-later a s sets ne))
    (subst (λ o. AreRising k (o ∷ times_of at (without a sets))) (sym (others s.address ne)) (stays rest (was s.address) r)))
  where
    above : (k t : ℕ) → k ≤ t → k ≤ suc t
    above k t h = (grind (arith))

    gone : ((k : ℕ) → AreRising k (times_of was sets) → AreRising k (times_of at (without a sets)))
        → (o : Option ℕ) → AreRising k (o ∷ times_of was sets) → AreRising k (times_of at (without a sets))
    gone rest None r = absurd r
    gone rest (Some t) r = rest k (weaken k (suc t) (times_of was sets) (above k t r.0) r.1)

    stays : ((k : ℕ) → AreRising k (times_of was sets) → AreRising k (times_of at (without a sets)))
        → (o : Option ℕ) → AreRising k (o ∷ times_of was sets) → AreRising k (o ∷ times_of at (without a sets))
    stays rest None r = r
    stays rest (Some t) r = (r.0, rest (suc t) r.1)

-- a registration, for an address with a set or without one
module _ (earlier : List RegistryInput) (new : Set) (at : ℕ → Option ℕ)
    (is : (q : ℕ) → at q ≡ cond (eqb new.address q) (Some (since (registered_at earlier q) (length earlier))) (registered_at earlier q))
    (r : AreRising 0 (times_of (registered_at earlier) (after_events earlier))) where
  other-time : (q : ℕ) → q ≢ new.address → at q ≡ registered_at earlier q
  other-time q ne = is q ∙ ap (λ b. cond b (Some (since (registered_at earlier q) (length earlier))) (registered_at earlier q)) (ne_eqb new.address q (λ h. ne (sym h)))

  own-time : at new.address ≡ Some (since (registered_at earlier new.address) (length earlier))
  own-time = is new.address
      ∙ ap (λ b. cond b (Some (since (registered_at earlier new.address) (length earlier))) (registered_at earlier new.address)) (eq-eqb new.address new.address refl)

  same-time : (t : ℕ) → registered_at earlier new.address ≡ Some t → (q : ℕ) → at q ≡ registered_at earlier q
  same-time t e q =
      by_eq q new.address
      (λ own. ap at own ∙ own-time ∙ ap (λ o. Some (since o (length earlier))) e ∙ sym e ∙ ap (registered_at earlier) (sym own))
      (other-time q)

  rising-cases : (o : Option Set) (p : Option ℕ) → set_at new.address (after_events earlier) ≡ o → registered_at earlier new.address ≡ p
      → is_some o ≡ is_some p → AreRising 0 (times_of at (with_set new (after_events earlier)))
  rising-cases (Some s) (Some t) there e both =
      subst (AreRising 0)
      (sym (times-same at new.address s new (after_events earlier) there refl ∙ times-ext at (registered_at earlier) (after_events earlier) (same-time t e)))
      r
  rising-cases None None there e both =
      rising-last at (registered_at earlier) 0 (length earlier) new (after_events earlier) (grind (arith)) there
      (own-time ∙ ap (λ o. Some (since o (length earlier))) e) other-time (below earlier) r
  rising-cases (Some s) None there e both = absurd (true≢false both)
  rising-cases None (Some t) there e both = absurd (true≢false (sym both))

  rising-registered : AreRising 0 (times_of at (with_set new (after_events earlier)))
  rising-registered =
      rising-cases (set_at new.address (after_events earlier)) (registered_at earlier new.address) refl refl (are-there earlier new.address)

rising-joining : (b : Bool) (at : ℕ → Option ℕ) (a n : ℕ) (s : Set) (sets : List Set) → set_at a sets ≡ Some s
    → times_of at (cond b (with_set (with_member s n) sets) sets) ≡ times_of at sets
rising-joining true at a n s sets there = times-same at a s (with_member s n) sets there (set_at-address a s sets there)
rising-joining false at a n s sets there = refl

rising-joined : (at : ℕ → Option ℕ) (a n : ℕ) (o : Option Set) (sets : List Set) → set_at a sets ≡ o → times_of at (joining o n sets) ≡ times_of at sets
rising-joined at a n None sets there = refl
rising-joined at a n (Some s) sets there = rising-joining (has_place s) at a n s sets there

rising-bound : (at : ℕ → Option ℕ) (a n : ℕ) (o : Option Set) (sets : List Set) → set_at a sets ≡ o → times_of at (binding o n sets) ≡ times_of at sets
rising-bound at a n None sets there = refl
rising-bound at a n (Some s) sets there = times-same at a s (bound s n) sets there (set_at-address a s sets there)

closed-time : (a : ℕ) (earlier : List RegistryInput) (q : ℕ) → q ≢ a → registered_at (Closes a ∷ earlier) q ≡ registered_at earlier q
closed-time a earlier q ne = ap (λ b. cond b None (registered_at earlier q)) (ne_eqb a q (λ h. ne (sym h)))

pub are-rising : (events : List RegistryInput) → AreRising 0 (times_of (registered_at events) (after_events events))
are-rising [] = tt
are-rising (Masters a None c ∷ earlier) = are-rising earlier
are-rising (Masters a (Some h) c ∷ earlier) =
    rising-registered earlier (mastered a h c) (registered_at (Masters a (Some h) c ∷ earlier)) (λ q. refl) (are-rising earlier)
are-rising (Joins a n ∷ earlier) =
    subst (AreRising 0) (sym (rising-joined (registered_at earlier) a n (set_at a (after_events earlier)) (after_events earlier) refl)) (are-rising earlier)
are-rising (Closes a ∷ earlier) =
    rising-without (registered_at (Closes a ∷ earlier)) (registered_at earlier) 0 a (after_events earlier) (closed-time a earlier) (are-rising earlier)
are-rising (Preloads a ∷ earlier) =
    rising-registered earlier (preloaded a) (registered_at (Preloads a ∷ earlier)) (λ q. refl) (are-rising earlier)
are-rising (Binds a n ∷ earlier) =
    subst (AreRising 0) (sym (rising-bound (registered_at earlier) a n (set_at a (after_events earlier)) (after_events earlier) refl)) (are-rising earlier)

pub registered : SetsAreRegistered
registered = record { there = are-there; order = are-rising; within = are-within; last = are-last }
