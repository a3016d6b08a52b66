-- The response of an address to one stage of a step, and to several in sequence.
use Rattle.std.proofs.Common.{◌≡◌, ◌<◌, ℕ, Bool, true, false, cond, ◌&&◌, List, [], ◌∷◌, ◌++◌, Option, Some, None, is_some, refl, sym, ap, subst, ◌∙◌, nat_eq, append_assoc, append-nil}
use Rattle.std.specs.Option.{option_eq}
use Rattle.vt_can.specs.Assigned.{TP_TIMEOUT, ETP_TIMEOUT, SENDER_TIMEOUT}
use Rattle.vt_can.specs.transport.Sessions.{is_overdue}
use Rattle.vt_names.specs.Registry.{AreApart, set_at}
use Rattle.vt_server.specs.shown.ShownSet.{choosing, shown_now, raised_at, events_of_change, display, status, same_display, ShownMasks, status_frame, ACTIVATE, DEACTIVATE}
use Rattle.vt_laws.specs.Happenings.{Happening, TpExpired, EtpExpired, SendingExpired, FellSilent, EventRaised, by_act, response, response_while, part_after_all, frames_of_all, if_so, is_at, lapses, events_at}
use Rattle.vt_laws.specs.Responses.{Response, without_effect, frames_to}
use Rattle.vt_server.specs.frame.TimeoutActs.{silences, tp_due, etp_due, sending_due, after_tp_timeouts, after_etp_timeouts, after_timeouts, lapsed, sent_by_lapses}
use Rattle.vt_node.specs.Watches.{is_silent}
use Rattle.vt_server.specs.state.AddressViews.{AddressView, Act, TpExpires, EtpExpires, SendingExpires, FallsSilent, Raises}
use Rattle.vt_server.specs.Steps.{with_shown_updated, sent_by_shown_update}
use Rattle.vt_server.specs.Terminals.{State, Sent, ToAll, after_acts, sent_by_acts}
use Rattle.vt_server.proofs.lemmas.acts.ComposedActs.{acts-append, sent-append, beside}
use Rattle.vt_laws.proofs.lemmas.views.ActChangesOneView.{bare, turns, turns_frames, part-acts, frames-sent_by, frames-append}
use Rattle.vt_server.proofs.lemmas.acts.ActLists.{of}
use Rattle.vt_laws.proofs.lemmas.views.TimeoutsAtAddress.{so, of-tp, of-etp, of-sending, of-silences}
use Rattle.vt_laws.proofs.lemmas.views.OutcomesWithoutTimes.{Laws}

-- ---- happenings while the terminal has its address, and in sequence

pub response-has : (a : ℕ) (p : AddressView) (h : Happening) → p.lost ≡ false → response a p h ≡ response_while a p h
response-has a p h has = ap (λ b. cond b (without_effect p) (response_while a p h)) has

pub responses-append : (a : ℕ) (p : AddressView) (xs ys : List Happening) → part_after_all a p (xs ++ ys) ≡ part_after_all a (part_after_all a p xs) ys
responses-append a p [] ys = refl
responses-append a p (x ∷ xs) ys = responses-append a (response a p x).part xs ys

pub frames-responses : (a : ℕ) (p : AddressView) (xs ys : List Happening) → frames_of_all a p (xs ++ ys) ≡ frames_of_all a p xs ++ frames_of_all a (part_after_all a p xs) ys
frames-responses a p [] ys = refl
frames-responses a p (x ∷ xs) ys =
    ap (λ l. (response a p x).frames ++ l) (frames-responses a (response a p x).part xs ys)
    ∙ sym (append_assoc (response a p x).frames (frames_of_all a (response a p x).part xs) (frames_of_all a (part_after_all a (response a p x).part xs) ys))

-- The view of an address after a stage and the frames to it are its response to these happenings.
pub record Takes (a : ℕ) (p : AddressView) (sent : List Sent) (t : State) (hs : List Happening) : Type 0 where
  pub has : t.lost ≡ false
  pub part : bare a t ≡ part_after_all a p hs
  pub frames : frames_to a sent ≡ frames_of_all a p hs

pub then-takes : (a : ℕ) (p : AddressView) (xs ys : List Sent) (t u : State) (hs ks : List Happening) → Takes a p xs t hs → Takes a (bare a t) ys u ks → Takes a p (xs ++ ys) u (hs ++ ks)
then-takes a p xs ys t u hs ks before next = record {
  has = next.has;
  part = next.part ∙ ap (λ q. part_after_all a q ks) before.part ∙ sym (responses-append a p hs ks);
  frames =
      frames-append a xs ys ∙ (λ i. before.frames i ++ next.frames i)
      ∙ ap (λ q. frames_of_all a p hs ++ frames_of_all a q ks) before.part ∙ sym (frames-responses a p hs ks);
}

-- Items sent to all, or not sent, add no frame to an address.
pub takes-beside : (a : ℕ) (p : AddressView) (xs ys : List Sent) (t : State) (hs : List Happening) → frames_to a xs ≡ [] → Takes a p ys t hs → Takes a p (xs ++ ys) t hs
takes-beside a p xs ys t hs none taken = record {
  has = taken.has;
  part = taken.part;
  frames = frames-append a xs ys ∙ ap (λ l. l ++ frames_to a ys) none ∙ taken.frames;
}

pub takes-before : (a : ℕ) (p : AddressView) (xs ys : List Sent) (t : State) (hs : List Happening) → frames_to a ys ≡ [] → Takes a p xs t hs → Takes a p (xs ++ ys) t hs
takes-before a p xs ys t hs none taken = record {
  has = taken.has;
  part = taken.part;
  frames = frames-append a xs ys ∙ ap (λ l. frames_to a xs ++ l) none ∙ append-nil (frames_to a xs) ∙ taken.frames;
}

-- ---- one act at the address, or none

module _ (laws : Laws) (a : ℕ) (s : State) (hs : List (ℕ × Act)) (has : s.lost ≡ false) where
  pub lost-acts : (after_acts s hs).lost ≡ false
  lost-acts = beside (λ (t : State). t.lost) (λ b o t. refl) s hs ∙ has

  pub acts-take : (b : Bool) (what : Act) (h : Happening) → of a hs ≡ so b what → (b ≡ true → response_while a (bare a s) h ≡ by_act a (bare a s) what)
      → Takes a (bare a s) (sent_by_acts s hs) (after_acts s hs) (if_so b h)
  acts-take b what h these is = record {
    has = lost-acts;
    part = part-acts laws a s hs ∙ ap (turns a (bare a s)) these ∙ part-cases b is;
    frames = frames-sent_by laws a s hs ∙ ap (turns_frames a (bare a s)) these ∙ frames-cases b is;
  }
    where
      part-cases : (b : Bool) → (b ≡ true → response_while a (bare a s) h ≡ by_act a (bare a s) what) → turns a (bare a s) (so b what) ≡ part_after_all a (bare a s) (if_so b h)
      part-cases true is = sym (ap (λ (o : Response). o.part) (response-has a (bare a s) h has ∙ is refl))
      part-cases false is = refl

      frames-cases : (b : Bool) → (b ≡ true → response_while a (bare a s) h ≡ by_act a (bare a s) what) → turns_frames a (bare a s) (so b what) ≡ frames_of_all a (bare a s) (if_so b h)
      frames-cases true is = sym (ap (λ (o : Response). o.frames ++ []) (response-has a (bare a s) h has ∙ is refl))
      frames-cases false is = refl

-- ---- the acts by the time of a frame

module _ (laws : Laws) (a : ℕ) (s : State) (small : a < 256) (apart : AreApart s.sets) (has : s.lost ≡ false) where
  abbrev first : State
  first = after_tp_timeouts s

  abbrev second : State
  second = after_etp_timeouts s

  abbrev third : State
  third = after_timeouts s

  has-first : first.lost ≡ false
  has-first = lost-acts laws a s (tp_due s) has

  has-second : second.lost ≡ false
  has-second = lost-acts laws a first (etp_due first) has-first

  has-third : third.lost ≡ false
  has-third = lost-acts laws a second (sending_due second) has-second

  -- Nothing is sent to a set that falls silent.
  silent-takes : Takes a (bare a third) [] (after_acts third (silences third)) (if_so (is_some (set_at a s.sets) && is_silent s.now (s.places a).heard) FellSilent)
  silent-takes =
      let b = is_some (set_at a s.sets) && is_silent s.now (s.places a).heard in
      let taken = acts-take laws a third (silences third) has-third b FallsSilent FellSilent (of-silences s a apart) (λ _. refl) in
      record { has = taken.has; part = taken.part; frames = none b }
    where
      none : (b : Bool) → [] ≡ frames_of_all a (bare a third) (if_so b FellSilent)
      none true = sym (ap (λ (o : Response). o.frames ++ []) (response-has a (bare a third) FellSilent has-third))
      none false = refl

  pub lapses-take : Takes a (bare a s) (sent_by_lapses s) (lapsed s) (lapses a s)
  unfolding lapsed sent_by_lapses
  lapses-take =
      subst (λ l. Takes a (bare a s) (sent_by_acts s (tp_due s) ++ (sent_by_acts first (etp_due first) ++ l)) (lapsed s) (lapses a s)) (append-nil (sent_by_acts second (sending_due second)))
      (then-takes a (bare a s) (sent_by_acts s (tp_due s)) _ first (lapsed s) _ _
      (acts-take laws a s (tp_due s) has (is_overdue TP_TIMEOUT s.now (s.places a).tp) TpExpires TpExpired (of-tp s a small) (λ _. refl))
      (then-takes a (bare a first) (sent_by_acts first (etp_due first)) _ second (lapsed s) _ _
      (acts-take laws a first (etp_due first) has-first (is_overdue ETP_TIMEOUT s.now (s.places a).etp) EtpExpires EtpExpired (of-etp s a small) (λ _. refl))
      (then-takes a (bare a second) (sent_by_acts second (sending_due second)) [] third (lapsed s) _ _
      (acts-take laws a second (sending_due second) has-second (is_overdue SENDER_TIMEOUT s.now (s.places a).sending) SendingExpires SendingExpired (of-sending s a small) (λ _. refl))
      silent-takes)))

-- ---- the choice of the shown set, and the events of its change

of-raised : (a : ℕ) (o : Option ℕ) (event : ℕ) → of a (raised_at o event) ≡ so (is_at a o) (Raises event)
of-raised a None event = refl
of-raised a (Some b) event = refl

frames-status : (a own : ℕ) (was now : ShownMasks) → frames_to a (status own was now) ≡ []
frames-status a own was now = cases (same_display was now)
  where
    cases : (b : Bool) → frames_to a (cond b [] (ToAll (status_frame own now) ∷ [])) ≡ []
    cases true = refl
    cases false = refl

module _ (laws : Laws) (a : ℕ) (s : State) (has : s.lost ≡ false) where
  raised-takes : (o : Option ℕ) (event : ℕ) → Takes a (bare a s) (sent_by_acts s (raised_at o event)) (after_acts s (raised_at o event)) (if_so (is_at a o) (EventRaised event))
  raised-takes o event = acts-take laws a s (raised_at o event) has (is_at a o) (Raises event) (EventRaised event) (of-raised a o event) (λ _. refl)

change-takes : (laws : Laws) (a : ℕ) (s : State) (was now : Option ℕ) → s.lost ≡ false
    → Takes a (bare a s) (sent_by_acts s (events_of_change was now)) (after_acts s (events_of_change was now)) (events_at a was now)
change-takes laws a s was now has = cases (option_eq nat_eq was now)
  where
    both : Takes a (bare a s) (sent_by_acts s (raised_at was DEACTIVATE ++ raised_at now ACTIVATE)) (after_acts s (raised_at was DEACTIVATE ++ raised_at now ACTIVATE))
        (if_so (is_at a was) (EventRaised DEACTIVATE) ++ if_so (is_at a now) (EventRaised ACTIVATE))
    both =
        let t = after_acts s (raised_at was DEACTIVATE) in
        let one = raised-takes laws a s has was DEACTIVATE in
        let taken = then-takes a (bare a s) (sent_by_acts s (raised_at was DEACTIVATE)) (sent_by_acts t (raised_at now ACTIVATE)) t (after_acts t (raised_at now ACTIVATE))
        (if_so (is_at a was) (EventRaised DEACTIVATE)) (if_so (is_at a now) (EventRaised ACTIVATE)) one (raised-takes laws a t one.has now ACTIVATE) in
        record {
          has = ap (λ (u : State). u.lost) (acts-append s (raised_at was DEACTIVATE) (raised_at now ACTIVATE)) ∙ taken.has;
          part = ap (bare a) (acts-append s (raised_at was DEACTIVATE) (raised_at now ACTIVATE)) ∙ taken.part;
          frames = ap (frames_to a) (sent-append s (raised_at was DEACTIVATE) (raised_at now ACTIVATE)) ∙ taken.frames;
        }

    cases : (b : Bool) → let hs = cond b [] (raised_at was DEACTIVATE ++ raised_at now ACTIVATE) in
        Takes a (bare a s) (sent_by_acts s hs) (after_acts s hs) (cond b [] (if_so (is_at a was) (EventRaised DEACTIVATE) ++ if_so (is_at a now) (EventRaised ACTIVATE)))
    cases true = record { has = has; part = refl; frames = refl }
    cases false = both

pub shown_update-takes : (laws : Laws) (a : ℕ) (old s : State) → s.lost ≡ false → Takes a (bare a s) (sent_by_shown_update old s) (with_shown_updated s) (events_at a s.shown (shown_now s))
unfolding with_shown_updated sent_by_shown_update
shown_update-takes laws a old s has =
    takes-before a (bare a s) (sent_by_acts (choosing s) (events_of_change s.shown (shown_now s))) (status s.claims.own (display old) (display (with_shown_updated s))) (with_shown_updated s) (events_at a s.shown (shown_now s))
    (frames-status a s.claims.own (display old) (display (with_shown_updated s)))
    (change-takes laws a (choosing s) s.shown (shown_now s) has)
