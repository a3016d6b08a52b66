-- Timeouts and closings do not depend on the address claims.
use Rattle.std.proofs.Common.{◌≡◌, ℕ, List, [], ◌∷◌, ◌++◌, refl, sym, ap, ◌∙◌}
use Rattle.vt_names.specs.Claims.{Claimed}
use Rattle.vt_server.specs.frame.TimeoutActs.{lapsed, sent_by_lapses, tp_due, etp_due, sending_due, silences, set_is_silent, after_tp_timeouts, after_etp_timeouts, after_timeouts}
use Rattle.vt_server.specs.state.AddressViews.{Act, TpExpires, EtpExpires, SendingExpires, FallsSilent, AddressOutcome, outcome}
use Rattle.vt_server.specs.Terminals.{State, part, put, to_address, after_act, after_acts, sent_by_act, sent_by_acts}
use Rattle.vt_server.proofs.lemmas.acts.ActLists.{AllActs, all-below, all-silences}
use Rattle.vt_server.proofs.lemmas.acts.ComposedActs.{act-is, sent_by_one-is}

abbrev pub with_claims : Claimed → State → State
with_claims c s = record s { claims = c }

-- an act whose outcome at an address does not depend on the claims
abbrev pub IsUnclaimed : Act → Type 0
IsUnclaimed h = (c : Claimed) (s : State) (a : ℕ) → c.own ≡ s.claims.own → outcome s.now a (part a (with_claims c s)) h ≡ outcome s.now a (part a s) h

tp-unclaimed : IsUnclaimed TpExpires
tp-unclaimed c s a own = ap (λ o. outcome s.now a (record (part a s) { terminal = o }) TpExpires) own

etp-unclaimed : IsUnclaimed EtpExpires
etp-unclaimed c s a own = ap (λ o. outcome s.now a (record (part a s) { terminal = o }) EtpExpires) own

sending-unclaimed : IsUnclaimed SendingExpires
sending-unclaimed c s a own = ap (λ o. outcome s.now a (record (part a s) { terminal = o }) SendingExpires) own

silent-unclaimed : IsUnclaimed FallsSilent
silent-unclaimed c s a own = refl

module _ (c : Claimed) where
  act-unclaimed : (s : State) (a : ℕ) (h : Act) → IsUnclaimed h → c.own ≡ s.claims.own → after_act (with_claims c s) a h ≡ with_claims c (after_act s a h)
  act-unclaimed s a h is own =
      act-is (with_claims c s) a h ∙ ap (λ (o : AddressOutcome). put a o (with_claims c s)) (is c s a own) ∙ sym (ap (with_claims c) (act-is s a h))

  sent-unclaimed : (s : State) (a : ℕ) (h : Act) → IsUnclaimed h → c.own ≡ s.claims.own → sent_by_act (with_claims c s) a h ≡ sent_by_act s a h
  sent-unclaimed s a h is own =
      sent_by_one-is (with_claims c s) a h ∙ ap (to_address a) (is c s a own) ∙ sym (sent_by_one-is s a h)

  own-act : (s : State) (a : ℕ) (h : Act) → c.own ≡ s.claims.own → c.own ≡ (after_act s a h).claims.own
  own-act s a h own = own ∙ sym (ap (λ (t : State). t.claims.own) (act-is s a h))

  acts-unclaimed : (s : State) (hs : List (ℕ × Act)) → AllActs IsUnclaimed hs → c.own ≡ s.claims.own → after_acts (with_claims c s) hs ≡ with_claims c (after_acts s hs)
  acts-unclaimed s [] all own = refl
  acts-unclaimed s (h ∷ hs) all own =
      ap (λ (t : State). after_acts t hs) (act-unclaimed s h.0 h.1 all.0 own) ∙ acts-unclaimed (after_act s h.0 h.1) hs all.1 (own-act s h.0 h.1 own)

  all-sent-unclaimed : (s : State) (hs : List (ℕ × Act)) → AllActs IsUnclaimed hs → c.own ≡ s.claims.own → sent_by_acts (with_claims c s) hs ≡ sent_by_acts s hs
  all-sent-unclaimed s [] all own = refl
  all-sent-unclaimed s (h ∷ hs) all own =
      (λ i. sent-unclaimed s h.0 h.1 all.0 own i ++ sent_by_acts (act-unclaimed s h.0 h.1 all.0 own i) hs)
      ∙ ap (λ l. sent_by_act s h.0 h.1 ++ l) (all-sent-unclaimed (after_act s h.0 h.1) hs all.1 (own-act s h.0 h.1 own))

  own-acts : (s : State) (hs : List (ℕ × Act)) → c.own ≡ s.claims.own → c.own ≡ (after_acts s hs).claims.own
  own-acts s [] own = own
  own-acts s (h ∷ hs) own = own-acts (after_act s h.0 h.1) hs (own-act s h.0 h.1 own)

  module _ (s : State) (own : c.own ≡ s.claims.own) where
    tp-all : AllActs IsUnclaimed (tp_due s)
    tp-all = all-below IsUnclaimed _ TpExpires 256 tp-unclaimed

    abbrev t : State
    t = after_tp_timeouts s

    abbrev u : State
    u = after_etp_timeouts s

    abbrev v : State
    v = after_timeouts s

    first : after_tp_timeouts (with_claims c s) ≡ with_claims c t
    first = acts-unclaimed s (tp_due s) tp-all own

    second : after_etp_timeouts (with_claims c s) ≡ with_claims c u
    second =
        ap (λ (x : State). after_acts x (etp_due x)) first
        ∙ acts-unclaimed t (etp_due t) (all-below IsUnclaimed _ EtpExpires 256 etp-unclaimed) (own-acts s (tp_due s) own)

    own-u : c.own ≡ u.claims.own
    own-u = own-acts t (etp_due t) (own-acts s (tp_due s) own)

    third : after_timeouts (with_claims c s) ≡ with_claims c v
    third =
        ap (λ (x : State). after_acts x (sending_due x)) second
        ∙ acts-unclaimed u (sending_due u) (all-below IsUnclaimed _ SendingExpires 256 sending-unclaimed) own-u

    pub lapsed-unclaimed : lapsed (with_claims c s) ≡ with_claims c (lapsed s)
    unfolding lapsed
    lapsed-unclaimed =
        ap (λ (x : State). after_acts x (silences x)) third
        ∙ acts-unclaimed v (silences v) (all-silences IsUnclaimed (set_is_silent v) v.sets silent-unclaimed) (own-acts u (sending_due u) own-u)

    pub lapses-unclaimed : sent_by_lapses (with_claims c s) ≡ sent_by_lapses s
    unfolding sent_by_lapses
    lapses-unclaimed = λ i.
        all-sent-unclaimed s (tp_due s) tp-all own i
        ++ ((ap (λ (x : State). sent_by_acts x (etp_due x)) first
        ∙ all-sent-unclaimed t (etp_due t) (all-below IsUnclaimed _ EtpExpires 256 etp-unclaimed) (own-acts s (tp_due s) own)) i
        ++ (ap (λ (x : State). sent_by_acts x (sending_due x)) second
        ∙ all-sent-unclaimed u (sending_due u) (all-below IsUnclaimed _ SendingExpires 256 sending-unclaimed) own-u) i)
