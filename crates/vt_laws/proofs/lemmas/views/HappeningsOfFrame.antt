-- A step changes the view of an address by the happenings of the address.
use Rattle.std.proofs.Common.{◌≡◌, ◌≢◌, ℕ, Bool, true, false, cond, eqb, [], ◌∷◌, ◌++◌, refl, sym, ap, subst, ◌∙◌, eq-eqb, ne_eqb, nat_eq}
use Rattle.std.proofs.lemmas.Bool.{eqb-true}
use Rattle.std.specs.Option.{option_eq}
use Rattle.vt_can.specs.declared.frames.frame.Frame.{Frame}
use Rattle.vt_can.specs.frames.Frame.{source_of}
use Rattle.vt_names.specs.Claims.{Claimed, IsRisingByName}
use Rattle.vt_node.specs.Bus.{meaning_of, frame_meaning, unless_echo}
use Rattle.vt_server.specs.shown.ShownSet.{shown_now}
use Rattle.vt_laws.specs.Happenings.{HolderIs, FrameHeard, with_holder, by_act, part_after_all, frames_of_all, if_so, holder_change, events_at, heard_happenings, after_frame}
use Rattle.vt_laws.specs.Responses.{Response, frames_to}
use Rattle.vt_node.specs.Messages.{claim_from}
use Rattle.vt_server.specs.state.AddressViews.{Hears, Rebinds}
use Rattle.vt_server.specs.Steps.{receive_claim, before, changes, heard_at_source, acts, answer_to, is_defended, defence, with_shown_updated, sent_by_shown_update, acted, sent_by_frame, acting}
use Rattle.vt_server.specs.Terminals.{State, ToAll, holder, after_acts, sent_by_acts}
use Rattle.vt_server.specs.message.Verdicts.{Verdict}
use Rattle.vt_node.specs.declared.bus.FrameMeaning.{FrameMeaning}
use Rattle.vt_server.proofs.lemmas.acts.ComposedActs.{acts-append, sent-append}
use Rattle.vt_laws.proofs.lemmas.views.ActChangesOneView.{bare, turns, turns_frames, part-acts, frames-sent_by}
use Rattle.vt_server.proofs.lemmas.acts.ActLists.{of}
use Rattle.vt_laws.proofs.lemmas.views.ResponsesInSequence.{Takes, then-takes, takes-beside, acts-take, shown_update-takes, response-has, lost-acts}
use Rattle.vt_server.proofs.lemmas.acts.HolderChanges.{option-true, of-changes, own-before, claims-acts, shown-acts}
use Rattle.vt_laws.proofs.lemmas.views.OutcomesWithoutTimes.{Laws}
use Rattle.vt_names.proofs.AddressesAfterClaim.{by_eq}

-- A frame from another address than the terminal's own is no echo.
pub meaning-there : (a : ℕ) (s : State) (f : Frame) → a ≢ s.claims.own → source_of f ≡ a → meaning_of s.claims.own s.claims.name f ≡ frame_meaning s.claims.own f
meaning-there a s f apart is =
    ap (λ b. cond b (unless_echo s.claims.name (frame_meaning s.claims.own f)) (frame_meaning s.claims.own f)) (ne_eqb (source_of f) s.claims.own (λ h. apart (sym is ∙ h)))

-- ---- one frame after the timeouts and closings of its time, for an address other than the terminal's own

module _ (laws : Laws) (a : ℕ) (s : State) (f : Frame) (verdict : Verdict) (rising : IsRisingByName s.claims.addresses) (apart : a ≢ s.claims.own) (has : s.lost ≡ false) where
  abbrev m : FrameMeaning
  m = meaning_of s.claims.own s.claims.name f

  abbrev source : ℕ
  source = source_of f

  abbrev recorded : State
  recorded = before s source m

  abbrev rebound : State
  rebound = after_acts recorded (changes s source m)

  bare-before : bare a recorded ≡ with_holder (bare a s) (holder recorded a)
  bare-before = ap (λ own. record (with_holder (bare a s) (holder recorded a)) { terminal = own }) (own-before s source m)

  -- The change of the holder.
  change-part : (b : Bool) → option_eq nat_eq (holder s a) (holder recorded a) ≡ b
      → turns a (bare a recorded) (cond b [] (Rebinds ∷ [])) ≡ part_after_all a (bare a s) (cond b [] (HolderIs (holder recorded a) ∷ []))
  change-part true same = bare-before ∙ ap (with_holder (bare a s)) (sym (option-true (holder s a) (holder recorded a) same))
  change-part false other =
      ap (λ p. (by_act a p Rebinds).part) bare-before
      ∙ sym (ap (λ (o : Response). o.part) (response-has a (bare a s) (HolderIs (holder recorded a)) has))

  change-frames : (b : Bool) → turns_frames a (bare a recorded) (cond b [] (Rebinds ∷ [])) ≡ frames_of_all a (bare a s) (cond b [] (HolderIs (holder recorded a) ∷ []))
  change-frames true = refl
  change-frames false =
      ap (λ p. (by_act a p Rebinds).frames ++ []) bare-before
      ∙ sym (ap (λ (o : Response). o.frames ++ []) (response-has a (bare a s) (HolderIs (holder recorded a)) has))

  rebinds-take : Takes a (bare a s) (sent_by_acts recorded (changes s source m)) rebound (holder_change a s.claims (receive_claim s source m))
  rebinds-take =
      let happened = of-changes laws.holders s rising a source m in
      let b = option_eq nat_eq (holder s a) (holder recorded a) in
      record {
        has = lost-acts laws a recorded (changes s source m) has;
        part = part-acts laws a recorded (changes s source m) ∙ ap (turns a (bare a recorded)) happened ∙ change-part b refl;
        frames = frames-sent_by laws a recorded (changes s source m) ∙ ap (turns_frames a (bare a recorded)) happened ∙ change-frames b;
      }

  -- The frame at its source, after the change of the holder.
  of-heard : of a (heard_at_source s.claims.own source m f verdict) ≡ cond (eqb source a) (Hears m f verdict ∷ []) []
  of-heard =
      by_eq source s.claims.own
      (λ is. ap (λ b. of a (cond b [] ((source, Hears m f verdict) ∷ []))) (eq-eqb source s.claims.own is)
      ∙ sym (ap (λ b. cond b (Hears m f verdict ∷ []) []) (ne_eqb source a (λ h. apart (sym h ∙ is)))))
      (λ ne. ap (λ b. of a (cond b [] ((source, Hears m f verdict) ∷ []))) (ne_eqb source s.claims.own ne))

  own-rebound : rebound.claims.own ≡ s.claims.own
  own-rebound = ap (λ (c : Claimed). c.own) (claims-acts recorded (changes s source m)) ∙ own-before s source m

  hears-take : Takes a (bare a rebound) (sent_by_acts rebound (heard_at_source s.claims.own source m f verdict)) (after_acts rebound (heard_at_source s.claims.own source m f verdict))
      (if_so (eqb source a) (FrameHeard f verdict))
  hears-take =
      acts-take laws a rebound (heard_at_source s.claims.own source m f verdict) (lost-acts laws a recorded (changes s source m) has)
      (eqb source a) (Hears m f verdict) (FrameHeard f verdict) of-heard
      (λ here. ap (λ n. by_act a (bare a rebound) (Hears n f verdict)) (ap (λ own. frame_meaning own f) own-rebound ∙ sym (meaning-there a s f apart (eqb-true source a here))))

  frames-defence : (b : Bool) (frame : Frame) → frames_to a (cond b (ToAll frame ∷ []) []) ≡ []
  frames-defence true frame = refl
  frames-defence false frame = refl

  acted-takes : Takes a (bare a s) (sent_by_frame s source m f verdict) (acted s source m f verdict) (heard_happenings a s f verdict)
  acted-takes =
      let these = changes s source m in
      let last = heard_at_source s.claims.own source m f verdict in
      let taken = then-takes a (bare a s) (sent_by_acts recorded these) (sent_by_acts rebound last) rebound (after_acts rebound last)
      (holder_change a s.claims (receive_claim s source m)) (if_so (eqb source a) (FrameHeard f verdict)) rebinds-take hears-take in
      takes-beside a (bare a s) (defence s source m) (sent_by_acts recorded (these ++ last)) (acted s source m f verdict) (heard_happenings a s f verdict)
      (frames-defence (is_defended m (answer_to s source m)) (claim_from s.claims.own s.claims.name))
      (record {
        has = lost-acts laws a recorded (these ++ last) has;
        part = ap (bare a) (acts-append recorded these last) ∙ taken.part;
        frames = ap (frames_to a) (sent-append recorded these last) ∙ taken.frames;
      })

  pub acting-takes : (old : State) → Takes a (bare a s) (acting old s source m f verdict).sent (acting old s source m f verdict).after
      (heard_happenings a s f verdict ++ events_at a s.shown (shown_now (after_frame s f verdict)))
  acting-takes old =
      let u = acted s source m f verdict in
      let updates = shown_update-takes laws a old u acted-takes.has in
      then-takes a (bare a s) (sent_by_frame s source m f verdict) (sent_by_shown_update old u) u (with_shown_updated u)
      (heard_happenings a s f verdict) (events_at a s.shown (shown_now u)) acted-takes
      (subst (λ o. Takes a (bare a u) (sent_by_shown_update old u) (with_shown_updated u) (events_at a o (shown_now u))) (shown-acts recorded (acts s source m f verdict)) updates)
