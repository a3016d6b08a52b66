-- The shown set after a step, and the events of its change.
use Rattle.std.proofs.Common.{◌≡◌, ℕ, Bool, true, false, cond, not, List, [], ◌∷◌, ◌++◌, Option, Some, None, is_some, refl, sym, ap, ◌∙◌, append-nil, nat_eq}
use Rattle.std.proofs.lemmas.Option.{same_Some}
use Rattle.std.specs.Option.{option_map, option_eq}
use Rattle.vt_machine.specs.SetStates.{SetState}
use Rattle.vt_can.specs.declared.frames.frame.Frame.{Frame}
use Rattle.vt_names.specs.Registry.{Set}
use Rattle.vt_server.specs.shown.ShownSet.{ShownMasks, alarm_in, louder, loudest, first_with_pool, selected_now, or_selected, display, display_at, display_of, pool_shown_by, with_pool_at, raised_at, events_of_change, choosing, shown_now, status, same_display, status_frame}
use Rattle.vt_server.specs.Outputs.{outputs_of}
use Rattle.vt_server.specs.Steps.{with_shown_updated, sent_by_shown_update}
use Rattle.vt_server.specs.declared.output.Output.{Output}
use Rattle.vt_server.specs.declared.output.Output.TheVariants as declared
use Rattle.vt_server.specs.state.AddressViews.{Raises, with_place, raised_on}
use Rattle.vt_server.specs.state.AddressStates.{AddressState, with_pool}
use Rattle.vt_server.specs.Terminals.{State, ToAll, pool_of, pool_at, part, after_acts, sent_by_act, sent_by_acts}
use Rattle.vt_node.specs.AddressFunctions.{with_at}
use Rattle.vt_server.proofs.lemmas.acts.ComposedActs.{act-is, sent_by_one-is, acts-append, sent-append}
use Rattle.vt_server.proofs.lemmas.state.WritesByAddress.{put-place}
use Rattle.vt_names.proofs.AddressesAfterClaim.{none-some}

pub some-mapped : {X Y : Type 0} (f : X → Y) (o : Option X) → is_some (option_map f o) ≡ is_some o
some-mapped f None = refl
some-mapped f (Some x) = refl

pub not-false : (b : Bool) → false ≡ not b → b ≡ true
not-false true e = refl
not-false false e = e

pub not-true : (b : Bool) → true ≡ not b → b ≡ false
not-true true e = e
not-true false e = refl

module _ (pools : ℕ → Option SetState) where
  pub shown-none : (shown : Option ℕ) → None ≡ pool_shown_by pools shown → display_at pools shown ≡ display_of 0 None
  shown-none None none = refl
  shown-none (Some a) none = cases (pools a) none
    where
      cases : (o : Option SetState) → None ≡ with_pool_at a o → display_of a o ≡ display_of 0 None
      cases None e = refl
      cases (Some state) e = none-some e

  pub shown-some : (shown : Option ℕ) (a : ℕ) (state : SetState) → Some (a, state) ≡ pool_shown_by pools shown → display_at pools shown ≡ display_of a (Some state)
  shown-some None a state e = none-some (sym e)
  shown-some (Some b) a state e = cases (pools b) e
    where
      cases : (o : Option SetState) → Some (a, state) ≡ with_pool_at b o → display_of b o ≡ display_of a (Some state)
      cases None h = none-some (sym h)
      cases (Some other) h =
          let same : ◌≡◌ {A = ℕ × SetState} (b, other) (a, state) = same_Some (b, other) (a, state) (sym h) in
          ap (λ (d : ℕ × SetState). display_of d.0 (Some d.1)) same

-- ---- no set has a pool

module _ (s : State) (none : (a : ℕ) → pool_of s a ≡ None) where
  first-none : (sets : List Set) → first_with_pool (pool_of s) sets ≡ None
  first-none [] = refl
  first-none (set ∷ sets) = ap (λ (o : Option SetState). cond (is_some o) (Some set.address) (first_with_pool (pool_of s) sets)) (none set.address) ∙ first-none sets

  loudest-none : (sets : List Set) → loudest (pool_of s) sets ≡ None
  loudest-none [] = refl
  loudest-none (set ∷ sets) = λ i. louder set.address (alarm_in (none set.address i)) (loudest-none sets i)

  pool_at-none : (o : Option ℕ) → is_some (pool_at s o) ≡ false
  pool_at-none None = refl
  pool_at-none (Some a) = ap is_some (none a)

  selected-none : selected_now s ≡ None
  selected-none = ap (λ b. cond b s.selected (first_with_pool (pool_of s) s.sets)) (pool_at-none s.selected) ∙ first-none s.sets

  pub chosen-none : record s { selected = None; shown = None } ≡ choosing s
  chosen-none = λ i. record s { selected = sym selected-none i; shown = or_selected (sym (loudest-none s.sets) i) (sym selected-none i) }

-- Raising an event changes the pool of its address alone.
pub raised-place : (s : State) (a event : ℕ) (places : ℕ → AddressState)
    → places ≡ with_at a (with_pool (s.places a) (option_map (λ state. raised_on state event) (s.places a).content.pool)) s.places
    → record s { places = places } ≡ after_acts s (raised_at (Some a) event)
raised-place s a event places is =
    ap (λ (p : ℕ → AddressState). record s { places = p }) is
    ∙ sym (act-is s a (Raises event)
    ∙ put-place a s (with_place (part a s) (with_pool (s.places a) (option_map (λ state. raised_on state event) (s.places a).content.pool)) []) refl)

pub raised-same : (s : State) (was now : Option ℕ) → option_eq nat_eq was now ≡ true → s ≡ after_acts s (events_of_change was now)
raised-same s was now same = sym (ap (λ b. after_acts s (cond b [] (raised_at was 2 ++ raised_at now 1))) same)

pub raised-both : (s t u : State) (was now : Option ℕ) → option_eq nat_eq was now ≡ false → t ≡ after_acts s (raised_at was 2) → u ≡ after_acts t (raised_at now 1)
    → u ≡ after_acts s (events_of_change was now)
raised-both s t u was now other first second =
    second ∙ ap (λ (x : State). after_acts x (raised_at now 1)) first ∙ sym (acts-append s (raised_at was 2) (raised_at now 1))
    ∙ sym (ap (λ b. after_acts s (cond b [] (raised_at was 2 ++ raised_at now 1))) other)

-- Raising an event sends no frame.
raise-silent : (s : State) (a event : ℕ) → sent_by_act s a (Raises event) ≡ []
raise-silent s a event = sent_by_one-is s a (Raises event)

raised-silent : (s : State) (o : Option ℕ) (event : ℕ) → sent_by_acts s (raised_at o event) ≡ []
raised-silent s None event = refl
raised-silent s (Some a) event = append-nil (sent_by_act s a (Raises event)) ∙ raise-silent s a event

pub change-silent : (s : State) (was now : Option ℕ) → sent_by_acts s (events_of_change was now) ≡ []
change-silent s was now = cases (option_eq nat_eq was now)
  where
    cases : (b : Bool) → sent_by_acts s (cond b [] (raised_at was 2 ++ raised_at now 1)) ≡ []
    cases true = refl
    cases false =
        sent-append s (raised_at was 2) (raised_at now 1)
        ∙ (λ i. raised-silent s was 2 i ++ raised-silent (after_acts s (raised_at was 2)) now 1 i)

-- ---- the end of a step

module _ (s t : State) (left : t ≡ after_acts (choosing s) (events_of_change s.shown (choosing s).shown)) where
  pub shown_updated-is : t ≡ with_shown_updated s
  unfolding with_shown_updated
  shown_updated-is = left

  sent-is : (old : State) → sent_by_shown_update old s ≡ status s.claims.own (display old) (display (with_shown_updated s))
  unfolding sent_by_shown_update
  sent-is old = ap (λ l. l ++ status s.claims.own (display old) (display (with_shown_updated s))) (change-silent (choosing s) s.shown (shown_now s))

  module _ (old : State) (was now : ShownMasks) (before after : List Output) (first : was ≡ display old) (is : now ≡ display t) where
    status-by : (b : Bool) → same_display was now ≡ b → outputs_of (sent_by_shown_update old s) ≡ outputs_of (cond b [] (ToAll (status_frame s.claims.own now) ∷ []))
    status-by b e =
        ap outputs_of
        (sent-is old
        ∙ (λ i. status s.claims.own (sym first i) ((ap display (sym shown_updated-is) ∙ sym is) i))
        ∙ ap (λ c. cond c [] (ToAll (status_frame s.claims.own now) ∷ [])) e)

    pub status-none : same_display was now ≡ true → after ≡ before → after ≡ before ++ outputs_of (sent_by_shown_update old s)
    status-none same e = e ∙ sym (append-nil before) ∙ ap (λ l. before ++ l) (sym (status-by true same))

    pub status-sent : (f : Frame) → same_display was now ≡ false → f ≡ status_frame s.claims.own now → after ≡ before ++ declared.Frame f ∷ []
        → after ≡ before ++ outputs_of (sent_by_shown_update old s)
    status-sent f other e sent =
        sent ∙ ap (λ g. before ++ declared.Frame g ∷ []) e ∙ ap (λ l. before ++ l) (sym (status-by false other))
