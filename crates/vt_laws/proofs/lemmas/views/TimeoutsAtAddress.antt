-- The acts by the time of a frame at one address: timeouts of its sessions and the closing of its set.
use Rattle.std.proofs.Common.{◌≡◌, ◌≢◌, ◌<◌, ◌≤◌, ℕ, zero, suc, Bool, true, false, cond, ◌&&◌, eqb, List, [], ◌∷◌, ◌++◌, map, Option, None, is_some, refl, sym, ap, subst, ◌∙◌, eq-eqb, ne_eqb, append-nil, arith}
use Rattle.std.specs.List.{filter}
use Rattle.vt_can.specs.Assigned.{TP_TIMEOUT, ETP_TIMEOUT, SENDER_TIMEOUT}
use Rattle.vt_can.specs.transport.Sessions.{each_below, is_overdue}
use Rattle.vt_names.specs.Registry.{AreApart, Set, set_at}
use Rattle.vt_server.specs.frame.TimeoutActs.{silences, tp_due, etp_due, sending_due, after_tp_timeouts, after_etp_timeouts, after_timeouts}
use Rattle.vt_node.specs.Watches.{is_silent}
use Rattle.vt_server.specs.state.AddressViews.{AddressView, Act, TpExpires, EtpExpires, SendingExpires, FallsSilent, outcome}
use Rattle.vt_server.specs.state.AddressStates.{AddressState}
use Rattle.vt_server.specs.Terminals.{State, part, after_act, after_acts}
use Rattle.vt_server.proofs.lemmas.acts.ComposedActs.{sets-same, act-is, beside}
use Rattle.vt_node.proofs.ByAddress.{at-other}
use Rattle.vt_server.proofs.lemmas.acts.ActLists.{AllActs, all-below, of, of-append}
use Rattle.vt_names.proofs.SetsByAddress.{set_at-first, set_at-later}
use Rattle.vt_names.proofs.AddressesAfterClaim.{by_eq, none-some}

-- ---- state and sets that acts keep

abbrev pub KeepsPlaces : {X : Type 0} → (AddressState → X) → Act → Type 0
KeepsPlaces read h = (now b : ℕ) (p : AddressView) → read (outcome now b p h).place ≡ read p.place

pub places-kept : {X : Type 0} (read : AddressState → X) (a : ℕ) (s : State) (hs : List (ℕ × Act)) → AllActs (KeepsPlaces read) hs → read ((after_acts s hs).places a) ≡ read (s.places a)
places-kept read a s [] keeps = refl
places-kept read a s (h ∷ hs) keeps =
    let after = outcome s.now h.0 (part h.0 s) h.1 in
    places-kept read a (after_act s h.0 h.1) hs keeps.1
    ∙ ap (λ (t : State). read (t.places a)) (act-is s h.0 h.1)
    ∙ by_eq a h.0
    (λ is. ap (λ b. read (cond b after.place (s.places a))) (eq-eqb a h.0 is) ∙ keeps.0 s.now h.0 (part h.0 s) ∙ ap (λ b. read (s.places b)) (sym is))
    (λ ne. ap read (at-other h.0 a s.places after.place ne))

abbrev pub KeepsSets : Act → Type 0
KeepsSets h = (now b : ℕ) (p : AddressView) → (outcome now b p h).set ≡ p.set

pub sets-kept : (s : State) (hs : List (ℕ × Act)) → AllActs KeepsSets hs → (after_acts s hs).sets ≡ s.sets
sets-kept s [] keeps = refl
sets-kept s (h ∷ hs) keeps =
    let after = outcome s.now h.0 (part h.0 s) h.1 in
    sets-kept (after_act s h.0 h.1) hs keeps.1
    ∙ ap (λ (t : State). t.sets) (act-is s h.0 h.1)
    ∙ sets-same h.0 s.sets after.set (sym (keeps.0 s.now h.0 (part h.0 s)))

-- ---- the acts at one address below 256

abbrev pub so : Bool → Act → List Act
so b what = cond b (what ∷ []) []

of-one : (a n : ℕ) (b : Bool) (what : Act) → of a (cond b ((n, what) ∷ []) []) ≡ cond (eqb n a) (so b what) []
of-one a n true what = refl
of-one a n false what = sym (either (eqb n a))
  where
    either : (c : Bool) → ◌≡◌ {A = List Act} (cond c [] []) []
    either true = refl
    either false = refl

of-none-below : (a n : ℕ) (holds : ℕ → Bool) (what : Act) → n ≤ a → of a (each_below holds what n) ≡ []
unfolding each_below
of-none-below a zero holds what le = refl
of-none-below a (suc n) holds what le =
    of-append a (each_below holds what n) (cond (holds n) ((n, what) ∷ []) [])
    ∙ (λ i. of-none-below a n holds what (omega arith) i ++ of-one a n (holds n) what i)
    ∙ ap (λ c. cond c (so (holds n) what) []) (ne_eqb n a (omega arith))

pub of-below : (a n : ℕ) (holds : ℕ → Bool) (what : Act) → a < n → of a (each_below holds what n) ≡ so (holds a) what
unfolding each_below
of-below a zero holds what lt = let no : ⊥ = omega arith in absurd no
of-below a (suc n) holds what lt =
    of-append a (each_below holds what n) (cond (holds n) ((n, what) ∷ []) [])
    ∙ ap (λ l. of a (each_below holds what n) ++ l) (of-one a n (holds n) what)
    ∙ by_eq n a
    (λ is. (λ i. of-none-below a n holds what (subst (λ k. n ≤ k) is (omega arith)) i ++ cond (eq-eqb n a is i) (so (holds (is i)) what) []))
    (λ ne. ap (λ c. of a (each_below holds what n) ++ cond c (so (holds n) what) []) (ne_eqb n a ne)
    ∙ append-nil (of a (each_below holds what n)) ∙ of-below a n holds what (omega arith))

-- the silent sets in order of registration
abbrev falling : (Set → Bool) → List Set → List (ℕ × Act)
falling f sets = map (λ set. (set.address, FallsSilent)) (filter f sets)

none-silent : (a : ℕ) (f : Set → Bool) (sets : List Set) → set_at a sets ≡ None → of a (map (λ set. (set.address, FallsSilent)) (filter f sets)) ≡ []
none-silent a f [] none = refl
none-silent a f (t ∷ sets) none =
    by_eq t.address a
    (λ is. none-some (sym none ∙ set_at-first a t sets is))
    (λ ne. cases ne (none-silent a f sets (sym (set_at-later a t sets ne) ∙ none)) (f t))
  where
    cases : t.address ≢ a → of a (map (λ set. (set.address, FallsSilent)) (filter f sets)) ≡ [] → (b : Bool)
        → of a (map (λ (set : Set). (set.address, FallsSilent)) (cond b (t ∷ filter f sets) (filter f sets))) ≡ []
    cases ne rest true = ap (λ c. cond c (FallsSilent ∷ of a (map (λ set. (set.address, FallsSilent)) (filter f sets))) (of a (map (λ set. (set.address, FallsSilent)) (filter f sets)))) (ne_eqb t.address a ne) ∙ rest
    cases ne rest false = rest

of-silent : (a : ℕ) (g : ℕ → Bool) (sets : List Set) → AreApart sets
    → of a (map (λ set. (set.address, FallsSilent)) (filter (λ set. g set.address) sets)) ≡ so (is_some (set_at a sets) && g a) FallsSilent
of-silent a g [] apart = refl
of-silent a g (t ∷ sets) apart =
    let rest = of a (map (λ set. (set.address, FallsSilent)) (filter (λ set. g set.address) sets)) in
    by_eq t.address a
    (λ is.
    let none : rest ≡ [] = none-silent a (λ set. g set.address) sets (subst (λ b. set_at b sets ≡ None) is apart.0) in
    here is none (g t.address) refl ∙ sym (ap (λ (o : Option Set). so (is_some o && g a) FallsSilent) (set_at-first a t sets is)))
    (λ ne. later ne (of-silent a g sets apart.1) (g t.address) ∙ sym (ap (λ (o : Option Set). so (is_some o && g a) FallsSilent) (set_at-later a t sets ne)))
  where
    here : t.address ≡ a → of a (falling (λ set. g set.address) sets) ≡ [] → (b : Bool) → g t.address ≡ b
        → of a (map (λ (set : Set). (set.address, FallsSilent)) (cond b (t ∷ filter (λ set. g set.address) sets) (filter (λ set. g set.address) sets))) ≡ so (g a) FallsSilent
    here is none true e =
        ap (λ c. cond c (FallsSilent ∷ of a (falling (λ set. g set.address) sets)) (of a (falling (λ set. g set.address) sets))) (eq-eqb t.address a is) ∙ ap (λ l. FallsSilent ∷ l) none
        ∙ sym (ap (λ c. so c FallsSilent) (ap g (sym is) ∙ e))
    here is none false e = none ∙ sym (ap (λ c. so c FallsSilent) (ap g (sym is) ∙ e))

    later : t.address ≢ a → of a (falling (λ set. g set.address) sets) ≡ so (is_some (set_at a sets) && g a) FallsSilent → (b : Bool)
        → of a (map (λ (set : Set). (set.address, FallsSilent)) (cond b (t ∷ filter (λ set. g set.address) sets) (filter (λ set. g set.address) sets)))
        ≡ so (is_some (set_at a sets) && g a) FallsSilent
    later ne those true = ap (λ c. cond c (FallsSilent ∷ of a (falling (λ set. g set.address) sets)) (of a (falling (λ set. g set.address) sets))) (ne_eqb t.address a ne) ∙ those
    later ne those false = those

-- ---- the four lists of acts by a frame's time

module _ (s : State) where
  abbrev first : State
  first = after_tp_timeouts s

  abbrev second : State
  second = after_etp_timeouts s

  abbrev third : State
  third = after_timeouts s

  now-first : first.now ≡ s.now
  now-first = beside (λ (t : State). t.now) (λ a o t. refl) s (tp_due s)

  now-second : second.now ≡ s.now
  now-second = beside (λ (t : State). t.now) (λ a o t. refl) first (etp_due first) ∙ now-first

  pub now-third : third.now ≡ s.now
  now-third = beside (λ (t : State). t.now) (λ a o t. refl) second (sending_due second) ∙ now-second

  pub sets-third : third.sets ≡ s.sets
  sets-third =
      sets-kept second (sending_due second) (all-below KeepsSets (λ a. is_overdue SENDER_TIMEOUT second.now (second.places a).sending) SendingExpires 256 (λ now b p. refl))
      ∙ sets-kept first (etp_due first) (all-below KeepsSets (λ a. is_overdue ETP_TIMEOUT first.now (first.places a).etp) EtpExpires 256 (λ now b p. refl))
      ∙ sets-kept s (tp_due s) (all-below KeepsSets (λ a. is_overdue TP_TIMEOUT s.now (s.places a).tp) TpExpires 256 (λ now b p. refl))

  module _ {X : Type 0} (read : AddressState → X) (a : ℕ) where
    places-first : KeepsPlaces read TpExpires → read (first.places a) ≡ read (s.places a)
    places-first keeps = places-kept read a s (tp_due s) (all-below (KeepsPlaces read) (λ b. is_overdue TP_TIMEOUT s.now (s.places b).tp) TpExpires 256 keeps)

    places-second : KeepsPlaces read TpExpires → KeepsPlaces read EtpExpires → read (second.places a) ≡ read (s.places a)
    places-second keeps then-keeps =
        places-kept read a first (etp_due first) (all-below (KeepsPlaces read) (λ b. is_overdue ETP_TIMEOUT first.now (first.places b).etp) EtpExpires 256 then-keeps)
        ∙ places-first keeps

    pub places-third : KeepsPlaces read TpExpires → KeepsPlaces read EtpExpires → KeepsPlaces read SendingExpires → read (third.places a) ≡ read (s.places a)
    places-third keeps then-keeps last-keeps =
        places-kept read a second (sending_due second) (all-below (KeepsPlaces read) (λ b. is_overdue SENDER_TIMEOUT second.now (second.places b).sending) SendingExpires 256 last-keeps)
        ∙ places-second keeps then-keeps

  module _ (a : ℕ) (small : a < 256) where
    pub of-tp : of a (tp_due s) ≡ so (is_overdue TP_TIMEOUT s.now (s.places a).tp) TpExpires
    of-tp = of-below a 256 (λ b. is_overdue TP_TIMEOUT s.now (s.places b).tp) TpExpires small

    pub of-etp : of a (etp_due first) ≡ so (is_overdue ETP_TIMEOUT s.now (s.places a).etp) EtpExpires
    of-etp =
        of-below a 256 (λ b. is_overdue ETP_TIMEOUT first.now (first.places b).etp) EtpExpires small
        ∙ (λ i. so (is_overdue ETP_TIMEOUT (now-first i) (places-first (λ (x : AddressState). x.etp) a (λ now b p. refl) i)) EtpExpires)

    pub of-sending : of a (sending_due second) ≡ so (is_overdue SENDER_TIMEOUT s.now (s.places a).sending) SendingExpires
    of-sending =
        of-below a 256 (λ b. is_overdue SENDER_TIMEOUT second.now (second.places b).sending) SendingExpires small
        ∙ (λ i. so (is_overdue SENDER_TIMEOUT (now-second i) (places-second (λ (x : AddressState). x.sending) a (λ now b p. refl) (λ now b p. refl) i)) SendingExpires)

  pub of-silences : (a : ℕ) → AreApart s.sets → of a (silences third) ≡ so (is_some (set_at a s.sets) && is_silent s.now (s.places a).heard) FallsSilent
  of-silences a apart =
      of-silent a (λ b. is_silent third.now (third.places b).heard) third.sets (subst AreApart (sym sets-third) apart)
      ∙ (λ i. so (is_some (set_at a (sets-third i)) && is_silent (now-third i) (places-third (λ (x : AddressState). x.heard) a (λ now b p. refl) (λ now b p. refl) (λ now b p. refl) i)) FallsSilent)
