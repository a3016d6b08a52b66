-- The frames of a step to one address are messages, session control frames and packets; those to all are claims and statuses.
use Rattle.std.proofs.Common.{◌≡◌, ◌<◌, ◌^◌, inl, inr, ◌||◌, ℕ, Bool, true, false, cond, nat_eq, List, [], ◌∷◌, ◌++◌, map, Option, Some, None, IfSome, refl, sym, ap, subst, ◌∙◌, arith}
use Rattle.std.specs.Option.{option_eq}
use Rattle.vt_can.specs.Assigned.{TP_TIMEOUT, ETP_TIMEOUT, SENDER_TIMEOUT}
use Rattle.vt_can.specs.declared.frames.frame.Frame.{Frame}
use Rattle.vt_can.specs.frames.Identifier.{PartsAreIdentifiers, parts_of, raw_of, addressed}
use Rattle.vt_can.specs.frames.Frame.{source_of}
use Rattle.vt_can.specs.lines.Actions.{ActionValue}
use Rattle.vt_can.specs.transport.Sessions.{is_overdue}
use Rattle.vt_names.specs.Claims.{Claimed}
use Rattle.vt_names.specs.Registry.{Set}
use Rattle.vt_node.specs.Bus.{meaning_of}
use Rattle.vt_server.specs.shown.ShownSet.{choosing, shown_now, events_of_change, display, status, same_display, ShownMasks, status_frame}
use Rattle.vt_server.specs.frame.TimeoutActs.{at_time, lapsed, sent_by_lapses, tp_due, etp_due, sending_due, after_tp_timeouts, after_etp_timeouts}
use Rattle.vt_node.specs.Messages.{claim_from}
use Rattle.vt_server.specs.state.AddressViews.{AddressView, Act, Hears, Rebinds, Preloads, TpExpires, EtpExpires, SendingExpires, FallsSilent, Operates, Raises, unchanged, without_set, after_change, outcome}
use Rattle.vt_laws.specs.Destinations.{IsToOne, IsToAll, AreAddressed, HasAddresses}
use Rattle.vt_server.specs.Steps.{JudgedInput, FrameAt, ActionAt, step, before, changes, heard_at_source, acts, answer_to, is_lost_by, is_defended, defence, with_shown_updated, sent_by_shown_update, losing, acting, no_step, step_frame, has_no_set, selecting, at_shown, no_set, step_action}
use Rattle.vt_server.specs.Terminals.{State, Sent, ToOne, ToAll, part, after_act, after_acts, sent_by_act, sent_by_acts, to_address, sent_refusal}
use Rattle.vt_server.specs.message.Verdicts.{Verdict}
use Rattle.vt_node.specs.declared.bus.FrameMeaning.{FrameMeaning}
use Rattle.vt_server.specs.declared.output.OperatorFault.{OperatorFault}
use Rattle.vt_server.proofs.lemmas.acts.HolderChanges.{own-before}
use Rattle.vt_server.proofs.lemmas.steps.StepInvariants.{claims-lapsed}
use Rattle.vt_laws.proofs.lemmas.outputs.Packets.{AreReplies, IsReply}
use Rattle.vt_server.proofs.lemmas.acts.AddressedActs.{AllAt, at-append, at-below, at-changes, at-heard, at-change}
use Rattle.vt_laws.proofs.lemmas.outputs.FramesOfActs.{outcome-replies}
use Rattle.vt_server.proofs.lemmas.acts.ComposedActs.{beside, beside-act, sent_by_one-is}
use Rattle.vt_laws.proofs.lemmas.views.ViewsAfterSteps.{selecting-same}

-- ---- the identifiers of frames, by the law on identifiers

module _ (law : PartsAreIdentifiers) where
  module _ (own a : ℕ) (own-fits : own < 2 ^ 8) (fits : a < 2 ^ 8) where
    message-parts : parts_of (raw_of (addressed 5 0xE600 a own)) ≡ addressed 5 0xE600 a own
    message-parts = law.parts_again (addressed 5 0xE600 a own)
        (record { priority = omega arith; extended_data_page = omega arith; data_page = omega arith; pdu_format = omega arith; pdu_specific = fits; source = own-fits })

    claim-parts : parts_of (raw_of (addressed 6 0xEE00 a own)) ≡ addressed 6 0xEE00 a own
    claim-parts = law.parts_again (addressed 6 0xEE00 a own)
        (record { priority = omega arith; extended_data_page = omega arith; data_page = omega arith; pdu_format = omega arith; pdu_specific = fits; source = own-fits })

    tp-parts : parts_of (raw_of (addressed 7 0xEC00 a own)) ≡ addressed 7 0xEC00 a own
    tp-parts = law.parts_again (addressed 7 0xEC00 a own)
        (record { priority = omega arith; extended_data_page = omega arith; data_page = omega arith; pdu_format = omega arith; pdu_specific = fits; source = own-fits })

    etp-parts : parts_of (raw_of (addressed 7 0xC800 a own)) ≡ addressed 7 0xC800 a own
    etp-parts = law.parts_again (addressed 7 0xC800 a own)
        (record { priority = omega arith; extended_data_page = omega arith; data_page = omega arith; pdu_format = omega arith; pdu_specific = fits; source = own-fits })

    packet-parts : parts_of (raw_of (addressed 7 0xEB00 a own)) ≡ addressed 7 0xEB00 a own
    packet-parts = law.parts_again (addressed 7 0xEB00 a own)
        (record { priority = omega arith; extended_data_page = omega arith; data_page = omega arith; pdu_format = omega arith; pdu_specific = fits; source = own-fits })

    addressed-reply : (f : Frame) → IsReply own a f → IsToOne own a f
    addressed-reply f (inl is) = inl (ap parts_of is ∙ message-parts)
    addressed-reply f (inr (inl is)) = inr (inl (ap parts_of is ∙ tp-parts))
    addressed-reply f (inr (inr (inl is))) = inr (inr (inl (ap parts_of is ∙ etp-parts)))
    addressed-reply f (inr (inr (inr is))) = inr (inr (inr (ap parts_of is ∙ packet-parts)))

    addressed-replies : (frames : List Frame) → AreReplies own a frames → AreAddressed own (map (ToOne a) frames)
    addressed-replies [] are = tt
    addressed-replies (f ∷ frames) are = (addressed-reply f are.0, addressed-replies frames are.1)

addressed-append : (own : ℕ) (xs ys : List Sent) → AreAddressed own xs → AreAddressed own ys → AreAddressed own (xs ++ ys)
addressed-append own [] ys first second = second
addressed-append own (x ∷ xs) ys first second = (first.0, addressed-append own xs ys first.1 second)

addressed-refusal : (own : ℕ) (o : Option OperatorFault) → AreAddressed own (sent_refusal o)
addressed-refusal own None = tt
addressed-refusal own (Some fault) = (tt, tt)

-- ---- the items sent by acts

-- An act sends nothing, or its address is below 256.
abbrev Fits : ℕ → Act → Type 0
Fits a Rebinds = Unit {0}
Fits a FallsSilent = Unit {0}
Fits a (Raises event) = Unit {0}
Fits a _ = a < 2 ^ 8

change-sends : (own a : ℕ) (p : AddressView) (o : Option Set) → AreAddressed own (to_address a (after_change p o))
change-sends own a p None = tt
change-sends own a p (Some set) = cases (option_eq nat_eq set.name None || option_eq nat_eq set.name p.holder)
  where
    cases : (b : Bool) → AreAddressed own (to_address a (cond b (unchanged p) (without_set p)))
    cases true = tt
    cases false = tt

module _ (law : PartsAreIdentifiers) where
  act-sends : (s : State) (a : ℕ) (h : Act) → s.claims.own < 2 ^ 8 → a < 2 ^ 8 → AreAddressed s.claims.own (to_address a (outcome s.now a (part a s) h))
  act-sends s a h own-fits fits =
      let after = outcome s.now a (part a s) h in
      addressed-append s.claims.own (map (ToOne a) after.frames) (sent_refusal after.refused)
      (addressed-replies law s.claims.own a own-fits fits after.frames (outcome-replies s.now a (part a s) h))
      (addressed-refusal s.claims.own after.refused)

  fitting-sends : (s : State) (a : ℕ) (h : Act) → s.claims.own < 2 ^ 8 → Fits a h → AreAddressed s.claims.own (to_address a (outcome s.now a (part a s) h))
  fitting-sends s a (Hears n f verdict) own-fits fits = act-sends s a (Hears n f verdict) own-fits fits
  fitting-sends s a Rebinds own-fits fits = change-sends s.claims.own a (part a s) (part a s).set
  fitting-sends s a (Preloads contents) own-fits fits = tt
  fitting-sends s a TpExpires own-fits fits = act-sends s a TpExpires own-fits fits
  fitting-sends s a EtpExpires own-fits fits = act-sends s a EtpExpires own-fits fits
  fitting-sends s a SendingExpires own-fits fits = act-sends s a SendingExpires own-fits fits
  fitting-sends s a FallsSilent own-fits fits = tt
  fitting-sends s a (Operates action shown) own-fits fits = act-sends s a (Operates action shown) own-fits fits
  fitting-sends s a (Raises event) own-fits fits = tt

  module _ (own : ℕ) (own-fits : own < 2 ^ 8) where
    acts-send : (s : State) (hs : List (ℕ × Act)) → s.claims.own ≡ own → AllAt Fits hs → AreAddressed own (sent_by_acts s hs)
    acts-send s [] is fit = tt
    acts-send s (h ∷ hs) is fit =
        addressed-append own (sent_by_act s h.0 h.1) (sent_by_acts (after_act s h.0 h.1) hs)
        (subst (λ l. AreAddressed own l) (sym (sent_by_one-is s h.0 h.1))
        (subst (λ q. AreAddressed q (to_address h.0 (outcome s.now h.0 (part h.0 s) h.1))) is (fitting-sends s h.0 h.1 (subst (λ q. q < 2 ^ 8) (sym is) own-fits) fit.0)))
        (acts-send (after_act s h.0 h.1) hs (beside-act (λ (t : State). t.claims.own) (λ b o t. refl) s h.0 h.1 ∙ is) fit.1)

    own-acts : (s : State) (hs : List (ℕ × Act)) → s.claims.own ≡ own → (after_acts s hs).claims.own ≡ own
    own-acts s hs is = beside (λ (t : State). t.claims.own) (λ b o t. refl) s hs ∙ is

    lapses-send : (s : State) → s.claims.own ≡ own → AreAddressed own (sent_by_lapses s)
    unfolding sent_by_lapses
    lapses-send s is =
        let t = after_tp_timeouts s in
        let u = after_etp_timeouts s in
        let t-is = own-acts s (tp_due s) is in
        let u-is = own-acts t (etp_due t) t-is in
        addressed-append own (sent_by_acts s (tp_due s)) (sent_by_acts t (etp_due t) ++ sent_by_acts u (sending_due u))
        (acts-send s (tp_due s) is (at-below Fits (λ b. is_overdue TP_TIMEOUT s.now (s.places b).tp) TpExpires 256 (λ b lt. lt)))
        (addressed-append own (sent_by_acts t (etp_due t)) (sent_by_acts u (sending_due u))
        (acts-send t (etp_due t) t-is (at-below Fits (λ b. is_overdue ETP_TIMEOUT t.now (t.places b).etp) EtpExpires 256 (λ b lt. lt)))
        (acts-send u (sending_due u) u-is (at-below Fits (λ b. is_overdue SENDER_TIMEOUT u.now (u.places b).sending) SendingExpires 256 (λ b lt. lt))))

    -- ---- frames to all

    own-claim : (name : ℕ) → IsToAll own (claim_from own name)
    own-claim name = inl (claim-parts law own 255 own-fits (omega arith))

    cannot-claim : (name : ℕ) → IsToAll own (claim_from 254 name)
    cannot-claim name = inr (inl (claim-parts law 254 255 (omega arith) (omega arith)))

    defence-sends : (b : Bool) (name : ℕ) → AreAddressed own (cond b (ToAll (claim_from own name) ∷ []) [])
    defence-sends true name = (own-claim name, tt)
    defence-sends false name = tt

    status-sends : (was now : ShownMasks) → AreAddressed own (status own was now)
    status-sends was now = cases (same_display was now)
      where
        cases : (b : Bool) → AreAddressed own (cond b [] (ToAll (status_frame own now) ∷ []))
        cases true = tt
        cases false = (inr (inr (message-parts law own 255 own-fits (omega arith))), tt)

    shown_update-sends : (old s : State) → s.claims.own ≡ own → AreAddressed own (sent_by_shown_update old s)
    unfolding sent_by_shown_update
    shown_update-sends old s is =
        addressed-append own (sent_by_acts (choosing s) (events_of_change s.shown (shown_now s))) (status s.claims.own (display old) (display (with_shown_updated s)))
        (acts-send (choosing s) (events_of_change s.shown (shown_now s)) is (at-change Fits (λ a event. tt) s.shown (shown_now s)))
        (subst (λ q. AreAddressed own (status q (display old) (display (with_shown_updated s)))) (sym is) (status-sends (display old) (display (with_shown_updated s))))

    -- ---- a frame

    own-before-is : (s : State) (source : ℕ) (n : FrameMeaning) → s.claims.own ≡ own → (before s source n).claims.own ≡ own
    own-before-is s source n is = own-before s source n ∙ is

    acting-sends : (old s : State) (f : Frame) (n : FrameMeaning) (verdict : Verdict) → s.claims.own ≡ own → AreAddressed own (acting old s (source_of f) n f verdict).sent
    acting-sends old s f n verdict is =
        let source = source_of f in
        let t = before s source n in
        let hs = acts s source n f verdict in
        let t-is = own-before-is s source n is in
        addressed-append own (defence s source n ++ sent_by_acts t hs) (sent_by_shown_update old (after_acts t hs))
        (addressed-append own (defence s source n) (sent_by_acts t hs)
        (subst (λ q. AreAddressed own (cond (is_defended n (answer_to s source n)) (ToAll (claim_from q s.claims.name) ∷ []) [])) (sym is)
        (defence-sends (is_defended n (answer_to s source n)) s.claims.name))
        (acts-send t hs t-is (at-append Fits (changes s source n) (heard_at_source s.claims.own source n f verdict)
        (at-changes Fits (λ a. tt) s source n) (at-heard Fits s.claims.own source n f verdict (omega arith)))))
        (shown_update-sends old (after_acts t hs) (own-acts t hs t-is))

    frame-sends : (s : State) (time : ℕ) (f : Frame) (verdict : Verdict) → s.claims.own ≡ own → AreAddressed own (step_frame s time f verdict).sent
    frame-sends s time f verdict is =
        let t = at_time s time in
        let u = lapsed t in
        let n = meaning_of s.claims.own s.claims.name f in
        addressed-append own (sent_by_lapses t) _ (lapses-send t is)
        (by-loss n (ap (λ (c : Claimed). c.own) (claims-lapsed t) ∙ is) (is_lost_by (answer_to u (source_of f) n)))
      where
        by-loss : (n : FrameMeaning) → let u = lapsed (at_time s time) in
            u.claims.own ≡ own → (b : Bool) → AreAddressed own (cond b (losing u) (acting s u (source_of f) n f verdict)).sent
        by-loss n u-is true = (cannot-claim (lapsed (at_time s time)).claims.name, tt)
        by-loss n u-is false = acting-sends s (lapsed (at_time s time)) f n verdict u-is

    -- ---- an action

    no_set-sends : (b : Bool) → AreAddressed own (no_set b)
    no_set-sends true = (tt, tt)
    no_set-sends false = tt

    shown-fits : (o : Option ℕ) (action : ActionValue) (shown : Bool) → IfSome o (λ a. a < 2 ^ 8) → AllAt Fits (at_shown o (Operates action shown))
    shown-fits None action shown fits = tt
    shown-fits (Some a) action shown fits = (fits, tt)

    action-sends : (s : State) (action : ActionValue) (shown : Bool) → s.claims.own ≡ own → IfSome s.shown (λ a. a < 2 ^ 8) → AreAddressed own (step_action s action shown).sent
    action-sends s action shown is fits =
        let u = selecting s action in
        let hs = at_shown s.shown (Operates action shown) in
        let u-is : u.claims.own ≡ own = selecting-same (λ x. x.claims.own) (λ x o. refl) s action ∙ is in
        addressed-append own (no_set (has_no_set s action) ++ sent_by_acts u hs) (sent_by_shown_update s (after_acts u hs))
        (addressed-append own (no_set (has_no_set s action)) (sent_by_acts u hs) (no_set-sends (has_no_set s action))
        (acts-send u hs u-is (shown-fits s.shown action shown fits)))
        (shown_update-sends s (after_acts u hs) (own-acts u hs u-is))

  pub step-sends : (s : State) (e : JudgedInput) → HasAddresses s → AreAddressed s.claims.own (step s e).sent
  step-sends s (FrameAt time f verdict) fits = cases s.lost
    where
      cases : (b : Bool) → AreAddressed s.claims.own (cond b (no_step s) (step_frame s time f verdict)).sent
      cases true = tt
      cases false = frame-sends s.claims.own fits.own s time f verdict refl
  step-sends s (ActionAt action shown) fits = cases s.lost
    where
      cases : (b : Bool) → AreAddressed s.claims.own (cond b (no_step s) (step_action s action shown)).sent
      cases true = tt
      cases false = action-sends s.claims.own fits.own s action shown refl fits.shown
