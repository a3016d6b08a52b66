-- A tick at which nothing is due.
use Rattle.std.proofs.Common.{◌≡◌, inl, inr, ℕ, zero, suc, max, Bool, true, false, cond, ◌&&◌, List, [], ◌∷◌, ◌++◌, map, filter, Option, Some, None, is_some, unwrap_or, refl, sym, ap, ap₂, ◌∙◌, nat_eq, eq-eqb}
use Rattle.std.proofs.lemmas.Bool.{eqb-true, true≢false, false≢true}
use Rattle.std.specs.Option.{option_eq}
use Rattle.vt_can.specs.frames.Identifier.{PartsAreIdentifiers}
use Rattle.vt_can.specs.transport.Sessions.{each_below}
use Rattle.vt_names.specs.Registry.{Set}
use Rattle.vt_node.specs.Watches.{is_silent, first_silent_of, SomeAwaited}
use Rattle.vt_server.specs.frame.Deadlines.{IsDue, IsLate, echo, is_settled}
use Rattle.vt_server.specs.frame.TimeoutActs.{at_time, lapsed, sent_by_lapses, tp_due, etp_due, sending_due, silences, after_tp_timeouts, after_etp_timeouts, after_timeouts}
use Rattle.vt_server.specs.shown.ShownSet.{ShownMasks, choosing, selected_now, shown_now, events_of_change, raised_at, display, same_display, status, status_frame, DEACTIVATE, ACTIVATE}
use Rattle.vt_server.specs.state.AddressStates.{AddressState, watched}
use Rattle.vt_server.specs.state.AddressViews.{FallsSilent}
use Rattle.vt_server.specs.Steps.{with_shown_updated, sent_by_shown_update}
use Rattle.vt_server.specs.Terminals.{State, Sent, ToAll, after_acts, sent_by_acts}
use Rattle.vt_laws.specs.Ticks.{ticking, OthersAreIdle}
use Rattle.vt_laws.proofs.lemmas.ticks.Echoes.{echo-ticks, echo-source, echo-meaning}

-- ---- decisions

not-true : (b : Bool) → (b ≡ true → ⊥) → b ≡ false
not-true true no-way = absurd (no-way refl)
not-true false no-way = refl

not-false : (b : Bool) → (b ≡ false → ⊥) → b ≡ true
not-false true no-way = refl
not-false false no-way = absurd (no-way refl)

both-left : (a b : Bool) → (a && b) ≡ true → a ≡ true
both-left true b is = refl
both-left false b is = absurd (false≢true is)

both-right : (a b : Bool) → (a && b) ≡ true → b ≡ true
both-right true b is = is
both-right false b is = absurd (false≢true is)

same-option : (o p : Option ℕ) → option_eq nat_eq o p ≡ true → p ≡ o
same-option None None e = refl
same-option None (Some y) e = absurd (false≢true e)
same-option (Some x) None e = absurd (false≢true e)
same-option (Some x) (Some y) e = ap Some (sym (eqb-true x y e))

-- ---- nothing is late

each-none : {X : Type 0} (passes : ℕ → Bool) (what : X) (n : ℕ) → ((q : ℕ) → passes q ≡ false) → each_below passes what n ≡ []
unfolding each_below
each-none passes what zero none = refl
each-none passes what (suc n) none =
    ap₂ (λ (xs : List (ℕ × _)) (b : Bool). xs ++ cond b ((n, what) ∷ []) []) (each-none passes what n none) (none n)

no-silences : (heard : ℕ → Option ℕ) (now : ℕ) (sets : List Set) → is_some (first_silent_of now heard sets) ≡ false
    → filter (λ set. is_silent now (heard set.address)) sets ≡ []
no-silences heard now [] none = refl
no-silences heard now (set ∷ sets) none = cases (is_silent now (heard set.address)) none (no-silences heard now sets)
  where
    rest : List Set
    rest = filter (λ set. is_silent now (heard set.address)) sets

    cases : (b : Bool) → is_some (cond b (Some set.address) (first_silent_of now heard sets)) ≡ false
        → (is_some (first_silent_of now heard sets) ≡ false → rest ≡ []) → cond b (set ∷ rest) rest ≡ []
    cases true is others = absurd (true≢false is)
    cases false is others = others is

module _ (u : State) (late : IsLate u u.now → ⊥) where
  no-tp : tp_due u ≡ []
  no-tp = each-none _ _ 256 (λ q. not-true _ (λ is. late (inl (inl (inl (q, is))))))

  no-etp : etp_due u ≡ []
  no-etp = each-none _ _ 256 (λ q. not-true _ (λ is. late (inl (inl (inr (q, is))))))

  no-sending : sending_due u ≡ []
  no-sending = each-none _ _ 256 (λ q. not-true _ (λ is. late (inl (inr (q, is)))))

  no-silence : silences u ≡ []
  no-silence =
      ap (map (λ (set : Set). (set.address, FallsSilent)))
      (no-silences (λ a. (u.places a).heard) u.now u.sets (not-true _ (λ is. late (inr is))))

  after-tp : after_tp_timeouts u ≡ u
  after-tp = ap (after_acts u) no-tp

  after-etp : after_etp_timeouts u ≡ u
  after-etp = ap (λ (t : State). after_acts t (etp_due t)) after-tp ∙ ap (after_acts u) no-etp

  after-all : after_timeouts u ≡ u
  after-all = ap (λ (t : State). after_acts t (sending_due t)) after-etp ∙ ap (after_acts u) no-sending

  pub not-lapsed : lapsed u ≡ u
  unfolding lapsed
  not-lapsed = ap (λ (t : State). after_acts t (silences t)) after-all ∙ ap (after_acts u) no-silence

  pub nothing-lapses : sent_by_lapses u ≡ []
  unfolding sent_by_lapses
  nothing-lapses =
      ap₂ (λ (xs ys : List Sent). xs ++ ys) (ap (sent_by_acts u) no-tp)
      (ap₂ (λ (xs ys : List Sent). xs ++ ys)
      (ap (λ (t : State). sent_by_acts t (etp_due t)) after-tp ∙ ap (sent_by_acts u) no-etp)
      (ap (λ (t : State). sent_by_acts t (sending_due t)) after-etp ∙ ap (sent_by_acts u) no-sending))

-- ---- no other set is shown

same-masks : (d : ShownMasks) → same_display d d ≡ true
same-masks d = ap₂ (λ (a b : Bool). a && b) (eq-eqb d.address d.address refl) (ap₂ (λ (a b : Bool). a && b) (eq-eqb d.mask d.mask refl) (eq-eqb d.soft_keys d.soft_keys refl))

module _ (u : State) (settled : is_settled u ≡ true) where
  chosen-same : choosing u ≡ u
  chosen-same = ap₂ (λ (a b : Option ℕ). record u { selected = a; shown = b })
      (same-option u.selected (selected_now u) (both-left _ _ settled)) (same-option u.shown (shown_now u) (both-right _ _ settled))

  no-events : events_of_change u.shown (shown_now u) ≡ []
  no-events = ap (λ (b : Bool). cond b [] (raised_at u.shown DEACTIVATE ++ raised_at (shown_now u) ACTIVATE)) (both-right _ _ settled)

  pub not-updated : with_shown_updated u ≡ u
  unfolding with_shown_updated
  not-updated = ap (after_acts (choosing u)) no-events ∙ chosen-same

  pub nothing-told : (s : State) → display s ≡ display u → sent_by_shown_update s u ≡ []
  unfolding sent_by_shown_update
  nothing-told s same =
      ap₂ (λ (xs ys : List Sent). xs ++ ys) (ap (sent_by_acts (choosing u)) no-events)
      (ap₂ (status u.claims.own) same (ap display not-updated)
      ∙ ap (λ (b : Bool). cond b [] (ToAll (status_frame u.claims.own (display u)) ∷ [])) (same-masks (display u)))

-- ---- the time alone changes

abbrev at : State → ℕ → State
at s time = record s { now = max s.now time }

display-at : (s : State) (time : ℕ) → display s ≡ display (at s time)
unfolding display
display-at s time = refl

watched-same : (now : ℕ) (place : AddressState) (heard : Option ℕ) → place.heard ≡ heard → (heard ≡ None → ⊥) → watched now place ≡ place
watched-same now place None is some = absurd (some refl)
watched-same now place (Some last) is some =
    ap (λ (o : Option ℕ). record place { heard = Some (unwrap_or o now) }) is ∙ ap (λ (o : Option ℕ). record place { heard = o }) (sym is)

timed : (s : State) (time : ℕ) → (SomeAwaited (λ a. (s.places a).heard) → ⊥) → at_time s time ≡ at s time
timed s time heard = λ i. record s {
  now = max s.now time;
  places = λ address. watched-same (max s.now time) (s.places address) (s.places address).heard refl (λ none. heard (address, none)) i;
}

idle : (s : State) (time : ℕ) → s.lost ≡ false → (IsDue s time → ⊥) → ticking s time ≡ record { after = at s time; sent = [] }
idle s time kept due =
    let u = at s time in
    let heard : SomeAwaited (λ a. (s.places a).heard) → ⊥ = λ some. due (kept, inr (inl some)) in
    let late : IsLate u u.now → ⊥ = λ late. due (kept, inr (inr late)) in
    let settled : is_settled u ≡ true = not-false _ (λ unsettled. due (kept, inl unsettled)) in
    ap (λ (t : State). record { after = with_shown_updated (lapsed t); sent = sent_by_lapses t ++ sent_by_shown_update s (lapsed t) }) (timed s time heard)
    ∙ ap₂ (λ (t : State) (xs : List Sent). record { after = with_shown_updated t; sent = xs ++ sent_by_shown_update s t }) (not-lapsed u late) (nothing-lapses u late)
    ∙ ap₂ (λ (t : State) (xs : List Sent). record { after = t; sent = xs }) (not-updated u settled) (nothing-told u settled s (display-at s time))

pub others-idle : PartsAreIdentifiers → OthersAreIdle
others-idle law s time verdict kept fits due =
    echo-ticks s time (echo s.claims.own) verdict (echo-source law s.claims.own fits) kept (echo-meaning law s.claims.own fits s.claims.name) ∙ idle s time kept due
