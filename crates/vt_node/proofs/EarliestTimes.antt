-- The earliest time of the last frame of a set, and the first silent set.
use Rattle.std.proofs.Common.{◌≡◌, ◌≢◌, ◌≤◌, ◌-◌, ℕ, suc, true, false, cond, not, min, List, [], ◌∷◌, drop, Option, Some, None, Result, Ok, Err, OnErr, unwrap_or, refl, sym, ap, subst, ◌∙◌, arith}
use Rattle.std.proofs.lemmas.Option.{same_Some}
use Rattle.std.proofs.lemmas.Bool.{le-ltb}
use Rattle.std.specs.List.{slice_get}
use Rattle.vt_names.specs.Registry.{Set, is_of, set_at, with_set, without, registering, joining, binding, mastered, with_member, bound, preloaded, has_place}
use Rattle.vt_names.specs.declared.registry.RegistryFault.{RegistryFault}
use Rattle.vt_names.specs.declared.registry.RegistryFault.TheVariants.{OutOfMemory}
use Rattle.vt_node.specs.Watches.{is_silent, first_silent_of}
use Rattle.vt_node.specs.Registries.{IsHeardSince, AreHeardSince, sooner}
use Rattle.vt_node.specs.AddressFunctions.{with_at}
use Rattle.vt_node.proofs.ByAddress.{at-own, at-other}
use Rattle.vt_node.proofs.RestOfList.{dropped}
use Rattle.vt_names.proofs.SetsByAddress.{set_at-first, set_at-later}
use Rattle.vt_names.proofs.AddressesAfterClaim.{by_eq, none-some}

-- ---- one address

pub since-earlier : (e f : ℕ) (o : Option ℕ) → f ≤ e → IsHeardSince e o → IsHeardSince f o
since-earlier e f None le is = tt
since-earlier e f (Some last) le is = let within : e ≤ last = is in omega arith

since-sooner : (e : ℕ) (o : Option ℕ) → IsHeardSince (sooner e o) o
since-sooner e None = tt
since-sooner e (Some last) = omega arith

sooner-earlier : (e : ℕ) (o : Option ℕ) → sooner e o ≤ e
sooner-earlier e None = omega arith
sooner-earlier e (Some last) = omega arith

since-silent : (now e : ℕ) (o : Option ℕ) → now - e ≤ 3000000 → IsHeardSince e o → is_silent now o ≡ false
since-silent now e None soon is = refl
since-silent now e (Some last) soon is = let within : e ≤ last = is in le-ltb 3000000 (now - last) (omega arith)

-- ---- all sets

pub since-each : (e f : ℕ) (heard new : ℕ → Option ℕ) → ((a : ℕ) → IsHeardSince e (heard a) → IsHeardSince f (new a))
    → (sets : List Set) → AreHeardSince e heard sets → AreHeardSince f new sets
since-each e f heard new each [] all = tt
since-each e f heard new each (set ∷ sets) all = (each set.address all.0, since-each e f heard new each sets all.1)

module _ (e : ℕ) (heard : ℕ → Option ℕ) where
  pub since-with_set : (new : Set) (sets : List Set) → IsHeardSince e (heard new.address) → AreHeardSince e heard sets → AreHeardSince e heard (with_set new sets)
  since-with_set new [] is all = (is, tt)
  since-with_set new (set ∷ sets) is all =
      let rest = since-with_set new sets is all.1 in
      elim (is_of new.address set) as (λ b. AreHeardSince e heard (cond b (new ∷ sets) (set ∷ with_set new sets))) [
        | true ↦ (is, all.1)
        | false ↦ (all.0, rest)
      ]

  pub since-without : (a : ℕ) (sets : List Set) → AreHeardSince e heard sets → AreHeardSince e heard (without a sets)
  since-without a [] all = tt
  since-without a (set ∷ sets) all =
      let rest = since-without a sets all.1 in
      elim (is_of a set) as (λ b. AreHeardSince e heard (cond (not b) (set ∷ without a sets) (without a sets))) [
        | true ↦ rest
        | false ↦ (all.0, rest)
      ]

  since-at : (a : ℕ) (sets : List Set) (set : Set) → set_at a sets ≡ Some set → AreHeardSince e heard sets → IsHeardSince e (heard set.address)
  since-at a [] set there all = none-some there
  since-at a (s ∷ sets) set there all =
      let rest = since-at a sets set in
      by_eq s.address a
      (λ is. subst (λ (x : Set). IsHeardSince e (heard x.address)) (same_Some s set (sym (set_at-first a s sets is) ∙ there)) all.0)
      (λ ne. rest (sym (set_at-later a s sets ne) ∙ there) all.1)

  pub since-joining : (a name : ℕ) (sets : List Set) (o : Option Set) → set_at a sets ≡ o → AreHeardSince e heard sets → AreHeardSince e heard (joining o name sets)
  since-joining a name sets None there all = all
  since-joining a name sets (Some set) there all = elim (has_place set) as (λ b. AreHeardSince e heard (cond b (with_set (with_member set name) sets) sets)) [
    | true ↦ since-with_set (with_member set name) sets (since-at a sets set there all) all
    | false ↦ all
  ]

  pub since-binding : (a name : ℕ) (sets : List Set) (o : Option Set) → set_at a sets ≡ o → AreHeardSince e heard sets → AreHeardSince e heard (binding o name sets)
  since-binding a name sets None there all = all
  since-binding a name sets (Some set) there all = since-with_set (bound set name) sets (since-at a sets set there all) all

  since-registering : (a : ℕ) (holder : Option ℕ) (count : ℕ) (sets : List Set) → IsHeardSince e (heard a) → AreHeardSince e heard sets
      → AreHeardSince e heard (registering a holder count sets)
  since-registering a None count sets is all = all
  since-registering a (Some name) count sets is all = since-with_set (mastered a name count) sets is all

-- the earliest time after a master message, with the time of its address
pub since-mastered : (e : ℕ) (heard : ℕ → Option ℕ) (a : ℕ) (holder : Option ℕ) (count : ℕ) (sets new : List Set) (o : Option ℕ)
    (result : Result (Unit {0}) RegistryFault) → o ≡ heard a → AreHeardSince e heard sets
    → (result ≢ Err OutOfMemory → new ≡ registering a holder count sets) → OnErr result (new ≡ sets) → AreHeardSince (sooner e o) heard new
since-mastered e heard a holder count sets new o result is all sets_are kept =
    subst (λ x. AreHeardSince (sooner e x) heard new) (sym is) (cases result sets_are kept)
  where
    since : AreHeardSince (sooner e (heard a)) heard sets
    since = since-each e (sooner e (heard a)) heard heard (λ q. since-earlier e (sooner e (heard a)) (heard q) (sooner-earlier e (heard a))) sets all

    cases : (r : Result (Unit {0}) RegistryFault) → (r ≢ Err OutOfMemory → new ≡ registering a holder count sets) → OnErr r (new ≡ sets)
        → AreHeardSince (sooner e (heard a)) heard new
    cases (Ok v) registered same =
        subst (AreHeardSince (sooner e (heard a)) heard) (sym (registered (λ no. absurd cc)))
        (since-registering (sooner e (heard a)) heard a holder count sets (since-sooner e (heard a)) since)
    cases (Err f) registered same = subst (AreHeardSince (sooner e (heard a)) heard) (sym same) since

-- the earliest time after a frame from an address, or after the removal of its time
pub since-heard : (e f : ℕ) (heard new : ℕ → Option ℕ) (a now : ℕ) (sets : List Set) → f ≡ min e now → new ≡ with_at a (Some now) heard
    → AreHeardSince e heard sets → AreHeardSince f new sets
since-heard e f heard new a now sets least is all = since-each e f heard new each sets all
  where
    each : (q : ℕ) → IsHeardSince e (heard q) → IsHeardSince f (new q)
    each q since =
        by_eq q a
        (λ same. subst (IsHeardSince f) (sym (ap (λ (h : ℕ → Option ℕ). h q) is ∙ ap (with_at a (Some now) heard) same ∙ at-own a heard (Some now))) (omega arith))
        (λ ne. subst (IsHeardSince f) (sym (ap (λ (h : ℕ → Option ℕ). h q) is ∙ at-other a q heard (Some now) ne)) (since-earlier e f (heard q) (omega arith) since))

since-awaited : (e : ℕ) (heard new : ℕ → Option ℕ) (a : ℕ) (sets : List Set) → new ≡ with_at a None heard
    → AreHeardSince e heard sets → AreHeardSince e new sets
since-awaited e heard new a sets is all = since-each e e heard new each sets all
  where
    each : (q : ℕ) → IsHeardSince e (heard q) → IsHeardSince e (new q)
    each q since =
        by_eq q a
        (λ same. subst (IsHeardSince e) (sym (ap (λ (h : ℕ → Option ℕ). h q) is ∙ ap (with_at a None heard) same ∙ at-own a heard None)) tt)
        (λ ne. subst (IsHeardSince e) (sym (ap (λ (h : ℕ → Option ℕ). h q) is ∙ at-other a q heard None ne)) since)

-- the earliest time after a preloading
pub since-preloaded : (e : ℕ) (heard new : ℕ → Option ℕ) (a : ℕ) (sets left : List Set) → left ≡ with_set (preloaded a) sets → new ≡ with_at a None heard
    → AreHeardSince e heard sets → AreHeardSince e new left
since-preloaded e heard new a sets left is awaited all =
    subst (AreHeardSince e new) (sym is)
    (since-with_set e new (preloaded a) sets
    (subst (IsHeardSince e) (sym (ap (λ (h : ℕ → Option ℕ). h a) awaited ∙ at-own a heard None)) tt)
    (since-awaited e heard new a sets awaited all))

-- the earliest time after the start of a frame line
pub since-begun : (e f : ℕ) (heard new : ℕ → Option ℕ) (now : ℕ) (sets : List Set) → f ≡ min e now
    → ((q : ℕ) → new q ≡ Some (unwrap_or (heard q) now)) → AreHeardSince e heard sets → AreHeardSince f new sets
since-begun e f heard new now sets least is all =
    since-each e f heard new (λ q since. subst (IsHeardSince f) (sym (is q)) (each (heard q) since)) sets all
  where
    each : (o : Option ℕ) → IsHeardSince e o → IsHeardSince f (Some (unwrap_or o now))
    each None since = omega arith
    each (Some last) since = let within : e ≤ last = since in omega arith

-- ---- the first silent set

pub none-silent_of : (now e : ℕ) (heard : ℕ → Option ℕ) (sets : List Set) → now - e ≤ 3000000 → AreHeardSince e heard sets → first_silent_of now heard sets ≡ None
none-silent_of now e heard [] soon all = refl
none-silent_of now e heard (set ∷ sets) soon all =
    let rest = none-silent_of now e heard sets soon all.1 in
    ap (λ b. cond b (Some set.address) (first_silent_of now heard sets)) (since-silent now e (heard set.address) soon all.0) ∙ rest

module _ (heard : ℕ → Option ℕ) (sets : List Set) (place : ℕ) (set : Set) (there : slice_get sets place ≡ Some set) (a : ℕ) (same : a ≡ set.address) where
  pub looked-silent : (now : ℕ) (found new : Option ℕ) → found ≡ first_silent_of now heard (drop (suc place) sets)
      → new ≡ cond (is_silent now (heard a)) (Some a) found → new ≡ first_silent_of now heard (drop place sets)
  looked-silent now found new rest is =
      is
      ∙ (λ i. cond (is_silent now (heard (same i))) (Some (same i)) (rest i))
      ∙ sym (ap (first_silent_of now heard) (dropped sets place set there))

  pub looked-since : (e f : ℕ) → AreHeardSince e heard (drop (suc place) sets) → f ≡ sooner e (heard a) → AreHeardSince f heard (drop place sets)
  looked-since e f rest is =
      let least : f ≡ sooner e (heard set.address) = is ∙ ap (λ (q : ℕ). sooner e (heard q)) same in
      let own : IsHeardSince f (heard set.address) = subst (λ n. IsHeardSince n (heard set.address)) (sym least) (since-sooner e (heard set.address)) in
      let within : f ≤ e = subst (λ n. n ≤ e) (sym least) (sooner-earlier e (heard set.address)) in
      subst (AreHeardSince f heard) (sym (dropped sets place set there))
      ((own, since-each e f heard heard (λ q. since-earlier e f (heard q) within) (drop (suc place) sets) rest))
