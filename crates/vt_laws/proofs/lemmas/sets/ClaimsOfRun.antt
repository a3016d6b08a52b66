-- The address claims of a terminal are those of its run.
use Rattle.std.proofs.Common.{◌≡◌, ℕ, Bool, true, false, cond, ◌&&◌, eqb, nat_lt, List, [], ◌∷◌, ◌++◌, refl, sym, ap, subst, ◌∙◌}
use Rattle.vt_can.specs.frames.Frame.{source_of}
use Rattle.vt_can.specs.declared.frames.frame.Frame.{Frame}
use Rattle.vt_names.specs.Claims.{Claim, Claimed, HoldersAreLeast, IsHolder, after_claims, heard, holder_of}
use Rattle.vt_names.specs.declared.claims.ClaimMeaning.TheVariants as claims
use Rattle.vt_node.specs.Bus.{meaning_of}
use Rattle.vt_server.specs.shown.ShownSet.{choosing, shown_now, events_of_change}
use Rattle.vt_laws.specs.ReceivedClaims.{claim_of, takes_address, claims_heard, HoldersOfRuns}
use Rattle.vt_server.specs.frame.TimeoutActs.{at_time, lapsed}
use Rattle.vt_server.specs.state.AddressViews.{Act, Operates}
use Rattle.vt_server.specs.Steps.{JudgedInput, FrameAt, ActionAt, step, after_all, before, receive_claim, acts, no_step, losing, acted, acting, hearing, with_shown_updated, is_lost_by, answer_to, selecting, at_shown, step_frame, step_action}
use Rattle.vt_server.specs.Terminals.{State, after_acts}
use Rattle.vt_server.specs.message.Verdicts.{Verdict}
use Rattle.vt_node.specs.declared.bus.FrameMeaning.{FrameMeaning}
use Rattle.vt_node.specs.declared.bus.FrameMeaning.TheVariants.{ClaimRequest, Master, Member, Message, Tp, Etp, Nothing}
use Rattle.vt_node.specs.declared.bus.FrameMeaning.TheVariants as meanings
use Rattle.vt_server.proofs.lemmas.acts.HolderChanges.{claims-acts}
use Rattle.vt_server.proofs.lemmas.steps.StepInvariants.{lapsed-keeps, claims-lapsed}
use Rattle.vt_server.proofs.lemmas.acts.ComposedActs.{beside, beside-act}
use Rattle.vt_laws.proofs.lemmas.sets.SetsAfterStep.{shown_updated-claims}
use Rattle.vt_laws.proofs.lemmas.views.ViewsAfterSteps.{selecting-same}

-- ---- nothing changes after the loss of the address

lost-step : (s : State) (e : JudgedInput) → s.lost ≡ true → (step s e).after ≡ s
lost-step s (FrameAt time f verdict) lost = ap (λ b. (cond b (no_step s) (step_frame s time f verdict)).after) lost
lost-step s (ActionAt action shown) lost = ap (λ b. (cond b (no_step s) (step_action s action shown)).after) lost

lost-all : (s : State) (xs : List JudgedInput) → s.lost ≡ true → after_all s xs ≡ s
lost-all s [] lost = refl
lost-all s (e ∷ xs) lost = ap (λ t. after_all t xs) (lost-step s e lost) ∙ lost-all s xs lost

-- ---- acts do not lose the address

lost-acts : (s : State) (hs : List (ℕ × Act)) → (after_acts s hs).lost ≡ s.lost
lost-acts s hs = beside (λ (t : State). t.lost) (λ a o t. refl) s hs

lost-lapsed : (s : State) → (lapsed s).lost ≡ s.lost
lost-lapsed s = lapsed-keeps (λ t. t.lost ≡ s.lost) (λ t a h is. beside-act (λ (u : State). u.lost) (λ b o u. refl) t a h ∙ is) s refl

shown_updated-lost : (s : State) → (with_shown_updated s).lost ≡ s.lost
unfolding with_shown_updated
shown_updated-lost s = lost-acts (choosing s) (events_of_change s.shown (shown_now s))

-- ---- the claim that is the loss

answer_cases : (here lower higher : Bool)
    → is_lost_by (cond here (cond lower claims.Lost (cond higher claims.Defend claims.Nothing)) claims.Nothing) ≡ (here && lower)
answer_cases true true higher = refl
answer_cases true false true = refl
answer_cases true false false = refl
answer_cases false lower higher = refl

loss-is : (s : State) (source : ℕ) (m : FrameMeaning) → is_lost_by (answer_to s source m) ≡ takes_address s.claims.own s.claims.name source m
loss-is s source (meanings.Claim name) = answer_cases (eqb source s.claims.own) (nat_lt name s.claims.name) (nat_lt s.claims.name name)
loss-is s source ClaimRequest = refl
loss-is s source (Master count) = refl
loss-is s source (Member name) = refl
loss-is s source Message = refl
loss-is s source Tp = refl
loss-is s source Etp = refl
loss-is s source Nothing = refl

-- ---- one frame

unfoldable kept-by : ℕ → ℕ → List Claim → Claimed
kept-by own name earlier = record { own = own; name = name; addresses = after_claims earlier }

heard-is : (own name : ℕ) (earlier : List Claim) (s : State) (source : ℕ) (m : FrameMeaning) → s.claims ≡ kept-by own name earlier
    → receive_claim s source m ≡ kept-by own name (claim_of source m ++ earlier)
unfolding kept-by
heard-is own name earlier s source (meanings.Claim other) is = ap (λ (c : Claimed). heard c source other) is
heard-is own name earlier s source ClaimRequest is = is
heard-is own name earlier s source (Master count) is = is
heard-is own name earlier s source (Member other) is = is
heard-is own name earlier s source Message is = is
heard-is own name earlier s source Tp is = is
heard-is own name earlier s source Etp is = is
heard-is own name earlier s source Nothing is = is

-- A frame received in a state with these claims.
run-frame : (own name : ℕ) (earlier : List Claim) (old s : State) (f : Frame) (verdict : Verdict) (xs : List JudgedInput) (m : FrameMeaning) (gone : Bool)
    → s.claims ≡ kept-by own name earlier → s.lost ≡ false
    → ((t : State) → t.claims ≡ kept-by own name (claim_of (source_of f) m ++ earlier) → t.lost ≡ false
    → (after_all t xs).claims.addresses ≡ after_claims (claims_heard own name (claim_of (source_of f) m ++ earlier) xs))
    → (after_all (cond gone (losing s) (acting old s (source_of f) m f verdict)).after xs).claims.addresses
    ≡ after_claims (cond gone earlier (claims_heard own name (claim_of (source_of f) m ++ earlier) xs))
unfolding kept-by
run-frame own name earlier old s f verdict xs m true is has rest =
    ap (λ (t : State). t.claims.addresses) (lost-all (losing s).after xs refl) ∙ ap (λ (c : Claimed). c.addresses) is
run-frame own name earlier old s f verdict xs m false is has rest =
    let t = before s (source_of f) m in
    let u = acted s (source_of f) m f verdict in
    rest (with_shown_updated u)
    (shown_updated-claims u ∙ claims-acts t (acts s (source_of f) m f verdict) ∙ heard-is own name earlier s (source_of f) m is)
    (shown_updated-lost u ∙ lost-acts t (acts s (source_of f) m f verdict) ∙ has)

run-claims : (own name : ℕ) (earlier : List Claim) (s : State) (xs : List JudgedInput) → s.claims ≡ kept-by own name earlier → s.lost ≡ false
    → (after_all s xs).claims.addresses ≡ after_claims (claims_heard own name earlier xs)
unfolding kept-by
run-claims own name earlier s [] is has = ap (λ (c : Claimed). c.addresses) is
run-claims own name earlier s (ActionAt action shown ∷ xs) is has =
    let u = selecting s action in
    let hs = at_shown s.shown (Operates action shown) in
    let t = after_acts u hs in
    ap (λ b. (after_all (cond b (no_step s) (step_action s action shown)).after xs).claims.addresses) has
    ∙ run-claims own name earlier (with_shown_updated t) xs
    (shown_updated-claims t ∙ claims-acts u hs ∙ selecting-same (λ x. x.claims) (λ x o. refl) s action ∙ is)
    (shown_updated-lost t ∙ lost-acts u hs ∙ selecting-same (λ x. x.lost) (λ x o. refl) s action ∙ has)
run-claims own name earlier s (FrameAt time f verdict ∷ xs) is has =
    let source = source_of f in
    let m = meaning_of own name f in
    let u = lapsed (at_time s time) in
    let u-is : u.claims ≡ kept-by own name earlier = claims-lapsed (at_time s time) ∙ is in
    let rest = λ (t : State). run-claims own name (claim_of source m ++ earlier) t xs in
    let same : meaning_of s.claims.own s.claims.name f ≡ m = ap (λ (c : Claimed). meaning_of c.own c.name f) is in
    let gone : is_lost_by (answer_to u source m) ≡ takes_address own name source m =
    loss-is u source m ∙ ap (λ (c : Claimed). takes_address c.own c.name source m) u-is in
    ap (λ b. (after_all (cond b (no_step s) (step_frame s time f verdict)).after xs).claims.addresses) has
    ∙ ap (λ (n : FrameMeaning). (after_all (hearing s u source n f verdict).after xs).claims.addresses) same
    ∙ ap (λ b. (after_all (cond b (losing u) (acting s u source m f verdict)).after xs).claims.addresses) gone
    ∙ run-frame own name earlier s u f verdict xs m (takes_address own name source m) u-is (lost-lapsed (at_time s time) ∙ has) rest

pub holders : HoldersAreLeast → HoldersOfRuns
unfolding kept-by
holders least own name s xs address is has =
    subst (λ es. IsHolder (claims_heard own name [] xs) address (holder_of es address)) (sym (run-claims own name [] s xs is has))
    (least (claims_heard own name [] xs) address)
