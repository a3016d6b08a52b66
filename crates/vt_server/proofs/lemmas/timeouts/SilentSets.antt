-- Silent sets are closed one after the other.
use Rattle.std.proofs.Common.{◌≡◌, ◌≢◌, ◌<◌, ◌≤◌, ℕ, Bool, true, false, cond, not, List, [], ◌∷◌, length, map, Some, None, refl, sym, ap, subst, ◌∙◌, inl, inr, arith}
use Rattle.std.proofs.lemmas.Option.{same_Some}
use Rattle.std.specs.List.{filter}
use Rattle.vt_names.specs.Registry.{Set, is_of, set_at, without}
use Rattle.vt_server.specs.frame.TimeoutActs.{first_silent, set_is_silent, silences}
use Rattle.vt_node.specs.Watches.{is_silent}
use Rattle.vt_server.specs.state.AddressViews.{Act, FallsSilent}
use Rattle.vt_server.specs.state.AddressStates.{SetPool, AddressState, no_content, with_content}
use Rattle.vt_node.specs.Registries.{Watched}
use Rattle.vt_server.specs.frame.TimeoutContracts.{ClosesSets}
use Rattle.vt_server.specs.States.{state_of, places_by}
use Rattle.vt_server.specs.Terminals.{State, after_act, after_acts}
use Rattle.vt_node.specs.AddressFunctions.{with_at}
use Rattle.vt_server.specs.state.PoolTables.{content_of, spare_of}
use Rattle.vt_node.specs.Watches.{heard_of}
use Rattle.vt_server.specs.declared.pools.PoolTable.{PoolTable}
use Rattle.vt_server.specs.declared.terminal.Terminal.{Terminal}
use Rattle.vt_server.proofs.lemmas.acts.ComposedActs.{act-is}
use Rattle.vt_node.proofs.Sets.{none-same}
use Rattle.vt_node.proofs.ByAddress.{at-own, at-other}
use Rattle.vt_server.proofs.lemmas.state.WritesByAddress.{content-placed, state-is}
use Rattle.vt_node.proofs.ByAddress.{places-same}
use Rattle.vt_names.proofs.SetsByAddress.{set_at-first, set_at-later, without-first, without-later}
use Rattle.vt_names.proofs.AddressesAfterClaim.{by_eq, none-some}

-- ---- lists of sets

pub without-own : (a : ℕ) (sets : List Set) → set_at a (without a sets) ≡ None
without-own a [] = refl
without-own a (t ∷ sets) =
    let rest = without-own a sets in
    by_eq t.address a
    (λ is. ap (set_at a) (without-first a t sets is) ∙ rest)
    (λ ne. ap (set_at a) (without-later a t sets ne) ∙ set_at-later a t (without a sets) ne ∙ rest)

pub without-none : (a b : ℕ) (sets : List Set) → set_at a sets ≡ None → set_at a (without b sets) ≡ None
without-none a b [] none = refl
without-none a b (t ∷ sets) none =
    let rest = without-none a b sets in
    by_eq t.address a
    (λ is. none-some (sym none ∙ set_at-first a t sets is))
    (λ ne.
    let later = rest (sym (set_at-later a t sets ne) ∙ none) in
    by_eq t.address b
    (λ same. ap (set_at a) (without-first b t sets same) ∙ later)
    (λ other. ap (set_at a) (without-later b t sets other) ∙ set_at-later a t (without b sets) ne ∙ later))

pub without-fewer : (a : ℕ) (sets : List Set) → length (without a sets) ≤ length sets
without-fewer a [] = omega arith
without-fewer a (t ∷ sets) = let rest = without-fewer a sets in cases rest (not (is_of a t))
  where
    cases : length (without a sets) ≤ length sets → (b : Bool) → length (cond b (t ∷ without a sets) (without a sets)) ≤ length (t ∷ sets)
    cases rest true = omega arith
    cases rest false = omega arith

-- Two filters commute.
both : {X : Type 0} (f g : X → Bool) (xs : List X) → filter f (filter g xs) ≡ filter g (filter f xs)
both f g [] = refl
both f g (x ∷ xs) = cases (both f g xs) (f x) (g x) refl refl
  where
    cases : filter f (filter g xs) ≡ filter g (filter f xs) → (b c : Bool) → f x ≡ b → g x ≡ c
        → filter f (cond c (x ∷ filter g xs) (filter g xs)) ≡ filter g (cond b (x ∷ filter f xs) (filter f xs))
    cases rest true true e h =
        ap (λ d. cond d (x ∷ filter f (filter g xs)) (filter f (filter g xs))) e ∙ ap (λ l. x ∷ l) rest
        ∙ sym (ap (λ d. cond d (x ∷ filter g (filter f xs)) (filter g (filter f xs))) h)
    cases rest true false e h = rest ∙ sym (ap (λ d. cond d (x ∷ filter g (filter f xs)) (filter g (filter f xs))) h)
    cases rest false true e h = ap (λ d. cond d (x ∷ filter f (filter g xs)) (filter f (filter g xs))) e ∙ rest
    cases rest false false e h = rest

-- ---- a closed set

abbrev pub closed : ℕ → State → State
closed a s = record s { sets = without a s.sets; places = with_at a (with_content (s.places a) no_content) s.places }

pub closed-is : (a : ℕ) (s : State) → after_act s a FallsSilent ≡ closed a s
closed-is a s = act-is s a FallsSilent

-- An address has no set and no content.
pub record IsOut (a : ℕ) (s : State) : Type 0 where
  pub set : set_at a s.sets ≡ None
  pub content : (s.places a).content ≡ no_content

out-own : (a : ℕ) (s : State) → IsOut a (closed a s)
out-own a s = record {
  set = without-own a s.sets;
  content = ap (λ (p : AddressState). p.content) (at-own a s.places (with_content (s.places a) no_content));
}

out-after : (a b : ℕ) (s : State) → IsOut a s → IsOut a (closed b s)
out-after a b s out = record {
  set = without-none a b s.sets out.set;
  content =
      by_eq a b
      (λ is. ap (λ c. (with_at b (with_content (s.places b) no_content) s.places c).content) is
      ∙ ap (λ (p : AddressState). p.content) (at-own b s.places (with_content (s.places b) no_content)))
      (λ ne. ap (λ (p : AddressState). p.content) (at-other b a s.places (with_content (s.places b) no_content) ne) ∙ out.content);
}

out-closed : (a : ℕ) (s : State) → IsOut a s → closed a s ≡ s
out-closed a s out =
    state-is s (without a s.sets) (with_at a (with_content (s.places a) no_content) s.places)
    (none-same a s.sets out.set)
    (places-same a s.places (with_content (s.places a) no_content) (ap (with_content (s.places a)) out.content))

heard-kept : (a : ℕ) (s : State) (b : ℕ) → ((closed a s).places b).heard ≡ (s.places b).heard
heard-kept a s b =
    by_eq b a
    (λ is. ap (λ c. (with_at a (with_content (s.places a) no_content) s.places c).heard) is
    ∙ ap (λ (p : AddressState). p.heard) (at-own a s.places (with_content (s.places a) no_content)) ∙ ap (λ c. (s.places c).heard) (sym is))
    (λ ne. ap (λ (p : AddressState). p.heard) (at-other a b s.places (with_content (s.places a) no_content) ne))

-- ---- several closed sets

abbrev falls : List Set → List (ℕ × Act)
falls sets = map (λ set. (set.address, FallsSilent)) sets

-- A set that is closed already need not be closed again.
skip : (a : ℕ) (t : State) → IsOut a t → (sets : List Set) → after_acts t (falls sets) ≡ after_acts t (falls (without a sets))
skip a t out [] = refl
skip a t out (x ∷ sets) =
    let rest = skip a t out sets in
    let later = skip a (after_act t x.address FallsSilent) (subst (IsOut a) (sym (closed-is x.address t)) (out-after a x.address t out)) sets in
    by_eq x.address a
    (λ is. ap (λ (u : State). after_acts u (falls sets)) (closed-is x.address t ∙ ap (λ b. closed b t) is ∙ out-closed a t out)
    ∙ rest ∙ ap (λ l. after_acts t (falls l)) (sym (without-first a x sets is)))
    (λ ne. later ∙ ap (λ l. after_acts t (falls l)) (sym (without-later a x sets ne)))

module _ (s : State) where
  -- The first silent set is closed first.
  step : (t : State) (sets : List Set) (a : ℕ) → first_silent s sets ≡ Some a
      → after_acts t (falls (filter (set_is_silent s) sets)) ≡ after_acts (closed a t) (falls (filter (set_is_silent s) (without a sets)))
  step t [] a first = none-some first
  step t (x ∷ sets) a first = cases (step t sets a) (set_is_silent s x) refl first
    where
      cases : (first_silent s sets ≡ Some a → after_acts t (falls (filter (set_is_silent s) sets)) ≡ after_acts (closed a t) (falls (filter (set_is_silent s) (without a sets))))
          → (b : Bool) → set_is_silent s x ≡ b → cond b (Some x.address) (first_silent s sets) ≡ Some a
          → after_acts t (falls (cond b (x ∷ filter (set_is_silent s) sets) (filter (set_is_silent s) sets))) ≡ after_acts (closed a t) (falls (filter (set_is_silent s) (without a (x ∷ sets))))
      cases rest true e first =
          let is : x.address ≡ a = same_Some x.address a first in
          ap (λ (u : State). after_acts u (falls (filter (set_is_silent s) sets))) (closed-is x.address t ∙ ap (λ b. closed b t) is)
          ∙ skip a (closed a t) (out-own a t) (filter (set_is_silent s) sets)
          ∙ ap (λ l. after_acts (closed a t) (falls l)) (both (λ set. not (is_of a set)) (set_is_silent s) sets)
          ∙ ap (λ l. after_acts (closed a t) (falls (filter (set_is_silent s) l))) (sym (without-first a x sets is))
      cases rest false e first =
          rest first
          ∙ by_eq x.address a
          (λ is. ap (λ l. after_acts (closed a t) (falls (filter (set_is_silent s) l))) (sym (without-first a x sets is)))
          (λ ne. ap (λ l. after_acts (closed a t) (falls l))
          (sym (ap (filter (set_is_silent s)) (without-later a x sets ne)
          ∙ ap (λ b. cond b (x ∷ filter (set_is_silent s) (without a sets)) (filter (set_is_silent s) (without a sets))) e)))

  pub fewer : (sets : List Set) (a : ℕ) → first_silent s sets ≡ Some a → length (without a sets) < length sets
  fewer [] a first = none-some first
  fewer (x ∷ sets) a first = cases (fewer sets a) (set_is_silent s x) first
    where
      cases : (first_silent s sets ≡ Some a → length (without a sets) < length sets)
          → (b : Bool) → cond b (Some x.address) (first_silent s sets) ≡ Some a → length (without a (x ∷ sets)) < length (x ∷ sets)
      cases rest true first =
          let few = without-fewer a sets in
          subst (λ (l : List Set). length l < length (x ∷ sets)) (sym (without-first a x sets (same_Some x.address a first))) (omega arith)
      cases rest false first =
          let few = rest first in
          by_eq x.address a
          (λ is. subst (λ (l : List Set). length l < length (x ∷ sets)) (sym (without-first a x sets is)) (omega arith))
          (λ ne. subst (λ (l : List Set). length l < length (x ∷ sets)) (sym (without-later a x sets ne)) (omega arith))

  nothing : (sets : List Set) → first_silent s sets ≡ None → filter (set_is_silent s) sets ≡ []
  nothing [] none = refl
  nothing (x ∷ sets) none = cases (nothing sets) (set_is_silent s x) none
    where
      cases : (first_silent s sets ≡ None → filter (set_is_silent s) sets ≡ []) → (b : Bool) → cond b (Some x.address) (first_silent s sets) ≡ None
          → cond b (x ∷ filter (set_is_silent s) sets) (filter (set_is_silent s) sets) ≡ []
      cases rest true none = none-some (sym none)
      cases rest false none = rest none

  pub none-silent : first_silent s s.sets ≡ None → after_acts s (silences s) ≡ s
  none-silent none = ap (λ l. after_acts s (falls l)) (nothing s.sets none)

  -- After one closing the remaining silent sets are still to close.
  pub next-silent : (a : ℕ) → first_silent s s.sets ≡ Some a → after_acts (closed a s) (silences (closed a s)) ≡ after_acts s (silences s)
  next-silent a first =
      (λ i. after_acts (closed a s) (falls (filter (λ (set : Set). is_silent s.now (heard-kept a s set.address i)) (without a s.sets))))
      ∙ sym (step s s.sets a first)

-- ---- terminals

module _ (t : Terminal) (a : ℕ) (registry : Watched) (contents : PoolTable) where
  abbrev pub closing : Terminal
  closing = record t { registry = registry; contents = contents }

  pub closing-is : registry.sets ≡ without a t.registry.sets → registry.watch ≡ t.registry.watch → content_of contents ≡ with_at a no_content (content_of t.contents)
      → state_of closing ≡ closed a (state_of t)
  closing-is sets watch content = λ i. record (state_of t) {
    sets = sets i;
    places = ((λ j. places_by (content j) t.node (heard_of (watch j))) ∙ content-placed (content_of t.contents) t.node (heard_of t.registry.watch) a no_content) i;
  }

  -- A set is closed after others.
  pub closes : (old : Terminal) → ClosesSets old t → registry.sets ≡ without a t.registry.sets → t.registry.capacity ≤ registry.capacity
      → content_of contents ≡ with_at a no_content (content_of t.contents) → ((b : ℕ) → b ≢ a → spare_of contents b ≡ spare_of t.contents b)
      → ClosesSets old closing
  closes old before sets more content spares = record {
    node = before.node;
    sets = omega (arith, before.sets);
    uploads = λ b.
        by_eq b a
        (λ is. inl (ap (λ (l : List Set). set_at b l) sets ∙ ap (λ c. set_at c (without a t.registry.sets)) is ∙ without-own a t.registry.sets))
        (λ ne. elim (before.uploads b) [
          | inl none ↦ inl (ap (set_at b) sets ∙ without-none b a t.registry.sets none)
          | inr same ↦ inr ((
            ap (λ (c : ℕ → SetPool). c b) content ∙ at-other a b (content_of t.contents) no_content ne ∙ same.0,
            spares b ne ∙ same.1,
          ))
        ]);
  }
