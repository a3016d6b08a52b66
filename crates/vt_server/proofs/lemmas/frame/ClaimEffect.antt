-- The effect of a claim, and the frames sent for it.
use Rattle.std.proofs.Common.{◌≡◌, ◌≢◌, ℕ, Bool, true, false, cond, eqb, List, [], ◌∷◌, ◌++◌, map, Option, Some, None, is_some, true≢false, refl, sym, ap, ◌∙◌, nat_eq, eq-eqb, ne_eqb, append-nil}
use Rattle.std.specs.Option.{option_eq}
use Rattle.vt_can.specs.declared.frames.frame.Frame.{Frame}
use Rattle.vt_names.specs.Claims.{Claimed, address_of, holder_of}
use Rattle.vt_names.specs.Registry.{Set, set_at, without, binding, bound}
use Rattle.vt_node.specs.Messages.{claim_from}
use Rattle.vt_server.specs.Outputs.{outputs_of}
use Rattle.vt_server.specs.state.AddressViews.{AddressView, AddressOutcome, Act, Hears, Rebinds, unchanged, with_other_set, without_set, outcome, stays_under, with_holder_name, after_change, after_claim_heard}
use Rattle.vt_server.specs.state.AddressStates.{AddressState, no_content, with_content, heard_at}
use Rattle.vt_server.specs.Steps.{before, rebind_acts, rebind_former_acts, former_address, former_holder, changes_by, changes, heard_at_source, acts, acted, answer_to, is_defended, defence, sent_by_frame}
use Rattle.vt_server.specs.Terminals.{State, Sent, ToOne, ToAll, holder, part, put, sent_refusal, after_act, after_acts, sent_by_act, sent_by_acts}
use Rattle.vt_node.specs.AddressFunctions.{with_at}
use Rattle.vt_server.specs.message.Verdicts.{Verdict}
use Rattle.vt_node.specs.declared.bus.FrameMeaning.TheVariants.{Claim}
use Rattle.vt_server.specs.declared.output.Output.{Output}
use Rattle.vt_server.specs.declared.output.Output.TheVariants as declared
use Rattle.vt_server.proofs.lemmas.acts.HolderChanges.{claims-acts}
use Rattle.vt_server.proofs.lemmas.acts.ComposedActs.{act-is, sent_by_one-is, acts-append, sent-append}
use Rattle.vt_server.proofs.lemmas.state.WritesByAddress.{put-kept, put-set}
use Rattle.vt_server.proofs.lemmas.frame.FrameEffect.{with_place_at, part-at, put-over}

pub some-name : (o : Option ℕ) → true ≡ is_some o → (n : ℕ) × (o ≡ Some n)
some-name None e = absurd (true≢false e)
some-name (Some n) e = (n, refl)

pub no-name : (o : Option ℕ) → false ≡ is_some o → o ≡ None
no-name None e = refl
no-name (Some n) e = absurd (true≢false (sym e))

-- ---- a set without a NAME takes the holder's

module _ (s : State) (a : ℕ) where
  abbrev pub named : State
  named = put a (after_claim_heard (part a s) (set_at a s.sets)) s

  pub bind-none : None ≡ set_at a s.sets → s ≡ named
  bind-none none = sym (ap (λ o. put a (after_claim_heard (part a s) o) s) (sym none) ∙ put-kept a s (unchanged (part a s)) refl refl)

  -- If the set keeps its NAME, nothing changes.
  bind-same : (set : Set) → Some set ≡ set_at a s.sets → with_holder_name set set.name (holder s a) ≡ set → s ≡ named
  bind-same set there same =
      sym (ap (λ o. put a (after_claim_heard (part a s) o) s) (sym there)
      ∙ put-kept a s (with_other_set (part a s) (Some (with_holder_name set set.name (holder s a)))) (ap Some same ∙ there) refl)

  pub bind-named : (set : Set) (n : ℕ) → Some set ≡ set_at a s.sets → set.name ≡ Some n → s ≡ named
  bind-named set n there is = bind-same set there (ap (λ o. with_holder_name set o (holder s a)) is)

  pub bind-unheld : (set : Set) → Some set ≡ set_at a s.sets → set.name ≡ None → None ≡ holder s a → s ≡ named
  bind-unheld set there is none =
      bind-same set there (ap (λ o. with_holder_name set o (holder s a)) is ∙ ap (λ o. with_holder_name set None o) (sym none))

  pub bind-held : (set : Set) (h : ℕ) (sets : List Set) → Some set ≡ set_at a s.sets → set.name ≡ None → Some h ≡ holder s a
      → sets ≡ binding (set_at a s.sets) h s.sets → record s { sets = sets } ≡ named
  bind-held set h sets there is held e =
      ap (λ (l : List Set). record s { sets = l }) (e ∙ ap (λ o. binding o h s.sets) (sym there))
      ∙ sym (put-set a s (with_other_set (part a s) (Some (bound set h))) refl)
      ∙ sym (ap (λ o. put a (after_claim_heard (part a s) o) s) (sym there)
      ∙ ap (λ (x : Set). put a (with_other_set (part a s) (Some x)) s)
      (ap (λ o. with_holder_name set o (holder s a)) is ∙ ap (λ o. with_holder_name set None o) (sym held)))

-- ---- a change of the holder

module _ (s : State) (a : ℕ) (was : Option ℕ) where
  pub rebind-same : option_eq nat_eq was (holder s a) ≡ true → s ≡ after_acts s (rebind_acts was s a)
  rebind-same same = ap (λ b. after_acts s (cond b [] ((a, Rebinds) ∷ []))) (sym same)

  module _ (other : option_eq nat_eq was (holder s a) ≡ false) where
    acts-changed : after_acts s (rebind_acts was s a) ≡ put a (after_change (part a s) (set_at a s.sets)) s
    acts-changed = ap (λ b. after_acts s (cond b [] ((a, Rebinds) ∷ []))) other ∙ act-is s a Rebinds

    pub rebind-none : None ≡ set_at a s.sets → s ≡ after_acts s (rebind_acts was s a)
    rebind-none none =
        sym (acts-changed ∙ ap (λ o. put a (after_change (part a s) o) s) (sym none) ∙ put-kept a s (unchanged (part a s)) refl refl)

    pub rebind-kept : (set : Set) → Some set ≡ set_at a s.sets → stays_under set.name (holder s a) ≡ true → s ≡ after_acts s (rebind_acts was s a)
    rebind-kept set there keeps =
        sym (acts-changed ∙ ap (λ o. put a (after_change (part a s) o) s) (sym there)
        ∙ ap (λ b. put a (cond b (unchanged (part a s)) (without_set (part a s))) s) keeps ∙ put-kept a s (unchanged (part a s)) refl refl)

    pub rebind-closed : (set : Set) (sets : List Set) (places : ℕ → AddressState) → Some set ≡ set_at a s.sets → stays_under set.name (holder s a) ≡ false
        → sets ≡ without a s.sets → places ≡ with_at a (with_content (s.places a) no_content) s.places
        → record s { sets = sets; places = places } ≡ after_acts s (rebind_acts was s a)
    rebind-closed set sets places there closes e f =
        (λ i. record s { sets = e i; places = f i })
        ∙ sym (acts-changed ∙ ap (λ o. put a (after_change (part a s) o) s) (sym there)
        ∙ ap (λ b. put a (cond b (unchanged (part a s)) (without_set (part a s))) s) closes)

-- ---- the changes of holders, then the claim at its source

pub rebind_acts-same : (was : Option ℕ) (s t : State) (a : ℕ) → s.claims ≡ t.claims → rebind_acts was s a ≡ rebind_acts was t a
rebind_acts-same was s t a e = ap (λ (c : Claimed). cond (option_eq nat_eq was (holder_of c.addresses a)) [] ((a, Rebinds) ∷ [])) e

pub after-changes : (s t u v : State) (source name : ℕ) (left l h : Option ℕ) → t ≡ before s source (Claim name)
    → left ≡ former_address source (address_of s.claims.addresses name) → l ≡ former_holder s left → h ≡ holder s source
    → u ≡ after_acts t (rebind_former_acts l t left) → v ≡ after_acts u (rebind_acts h u source)
    → v ≡ after_acts (before s source (Claim name)) (changes s source (Claim name))
after-changes s t u v source name left l h t-is left-is l-is h-is u-is v-is =
    let first = rebind_former_acts l t left in
    let second = rebind_acts h t source in
    let same = rebind_acts-same h u t source (ap (λ (x : State). x.claims) u-is ∙ claims-acts t first) in
    v-is ∙ ap (after_acts u) same ∙ ap (λ x. after_acts x second) u-is ∙ sym (acts-append t first second)
    ∙ (λ i. after_acts (t-is i) (rebind_former_acts (l-is i) (t-is i) left ++ rebind_acts (h-is i) (t-is i) source))
    ∙ ap (λ o. after_acts (before s source (Claim name)) (changes_by s (before s source (Claim name)) o source)) left-is

-- A claim counts as a frame of its source, and the source's set takes the holder's NAME.
heard-claim : (v : State) (a name : ℕ) (frame : Frame) (verdict : Verdict)
    → named (with_place_at a (heard_at v.now (v.places a)) v) a ≡ after_act v a (Hears (Claim name) frame verdict)
heard-claim v a name frame verdict =
    let place = heard_at v.now (v.places a) in
    let u = with_place_at a place v in
    let p : AddressView = record (part a v) { place = place } in
    ap (λ (q : AddressView). put a (after_claim_heard q q.set) u) (part-at a place v) ∙ put-over a place v (after_claim_heard p p.set)
    ∙ sym (act-is v a (Hears (Claim name) frame verdict))

module _ (s v : State) (source name : ℕ) (frame : Frame) (verdict : Verdict)
    (v-is : v ≡ after_acts (before s source (Claim name)) (changes s source (Claim name))) where
  own-stays : v.claims.own ≡ s.claims.own
  own-stays = ap (λ (x : State). x.claims.own) v-is ∙ ap (λ (c : Claimed). c.own) (claims-acts (before s source (Claim name)) (changes s source (Claim name)))

  acted-then : after_acts v (heard_at_source s.claims.own source (Claim name) frame verdict) ≡ acted s source (Claim name) frame verdict
  acted-then =
      let last = heard_at_source s.claims.own source (Claim name) frame verdict in
      ap (λ (x : State). after_acts x last) v-is ∙ sym (acts-append (before s source (Claim name)) (changes s source (Claim name)) last)

  -- A claim from the terminal's own address adds no act.
  pub acted-own : source ≡ v.claims.own → v ≡ acted s source (Claim name) frame verdict
  acted-own own =
      sym (ap (λ b. after_acts v (cond b [] ((source, Hears (Claim name) frame verdict) ∷ []))) (eq-eqb source s.claims.own (own ∙ own-stays))) ∙ acted-then

  -- A claim from another address adds the act at its source.
  pub acted-other : (u w : State) → source ≢ v.claims.own → u ≡ with_place_at source (heard_at v.now (v.places source)) v → w ≡ named u source
      → w ≡ acted s source (Claim name) frame verdict
  acted-other u w ne u-is w-is =
      w-is ∙ ap (λ (x : State). named x source) u-is ∙ heard-claim v source name frame verdict
      ∙ sym (ap (λ b. after_acts v (cond b [] ((source, Hears (Claim name) frame verdict) ∷ []))) (ne_eqb source s.claims.own (λ e. ne (e ∙ sym own-stays))))
      ∙ acted-then

-- ---- acts that send nothing

record IsSilent (o : AddressOutcome) : Type 0 where
  pub frames : o.frames ≡ []
  pub refused : o.refused ≡ None

sent-none : (s : State) (a : ℕ) (h : Act) → IsSilent (outcome s.now a (part a s) h) → sent_by_act s a h ≡ []
sent-none s a h silent = sent_by_one-is s a h ∙ (λ i. map (ToOne a) (silent.frames i) ++ sent_refusal (silent.refused i))

cond-silent : (b : Bool) (p : AddressView) → IsSilent (cond b (unchanged p) (without_set p))
cond-silent true p = record { frames = refl; refused = refl }
cond-silent false p = record { frames = refl; refused = refl }

change-silent : (p : AddressView) (o : Option Set) → IsSilent (after_change p o)
change-silent p None = record { frames = refl; refused = refl }
change-silent p (Some set) = cond-silent (stays_under set.name p.holder) p

claim-silent : (p : AddressView) (o : Option Set) → IsSilent (after_claim_heard p o)
claim-silent p None = record { frames = refl; refused = refl }
claim-silent p (Some set) = record { frames = refl; refused = refl }

sent-changed : (was : Option ℕ) (s t : State) (a : ℕ) → sent_by_acts s (rebind_acts was t a) ≡ []
sent-changed was s t a = cases (option_eq nat_eq was (holder t a))
  where
    cases : (b : Bool) → sent_by_acts s (cond b [] ((a, Rebinds) ∷ [])) ≡ []
    cases true = refl
    cases false = append-nil (sent_by_act s a Rebinds) ∙ sent-none s a Rebinds (change-silent (part a s) (set_at a s.sets))

sent-left : (was : Option ℕ) (s t : State) (left : Option ℕ) → sent_by_acts s (rebind_former_acts was t left) ≡ []
sent-left was s t None = refl
sent-left was s t (Some left) = sent-changed was s t left

sent-heard : (own source name : ℕ) (frame : Frame) (verdict : Verdict) (s : State) → sent_by_acts s (heard_at_source own source (Claim name) frame verdict) ≡ []
sent-heard own source name frame verdict s = cases (eqb source own)
  where
    p : AddressView
    p = record (part source s) { place = heard_at s.now (s.places source) }

    cases : (b : Bool) → sent_by_acts s (cond b [] ((source, Hears (Claim name) frame verdict) ∷ [])) ≡ []
    cases true = refl
    cases false =
        append-nil (sent_by_act s source (Hears (Claim name) frame verdict)) ∙ sent-none s source (Hears (Claim name) frame verdict) (claim-silent p (set_at source s.sets))

both-none : (s : State) (hs ks : List (ℕ × Act)) → sent_by_acts s hs ≡ [] → sent_by_acts (after_acts s hs) ks ≡ [] → sent_by_acts s (hs ++ ks) ≡ []
both-none s hs ks first second = sent-append s hs ks ∙ (λ i. first i ++ second i)

sent-acts : (s : State) (source name : ℕ) (frame : Frame) (verdict : Verdict) → sent_by_acts (before s source (Claim name)) (acts s source (Claim name) frame verdict) ≡ []
sent-acts s source name frame verdict =
    let t = before s source (Claim name) in
    let left = former_address source (address_of s.claims.addresses name) in
    let first = rebind_former_acts (former_holder s left) t left in
    let second = rebind_acts (holder s source) t source in
    both-none t (first ++ second) (heard_at_source s.claims.own source (Claim name) frame verdict)
    (both-none t first second (sent-left (former_holder s left) t t left) (sent-changed (holder s source) (after_acts t first) t source))
    (sent-heard s.claims.own source name frame verdict (after_acts t (first ++ second)))

-- The only frame sent for a claim is the terminal's own claim, if it defends its address.
sent-is : (s : State) (source name : ℕ) (frame : Frame) (verdict : Verdict) (b : Bool) → b ≡ is_defended (Claim name) (answer_to s source (Claim name))
    → cond b (ToAll (claim_from s.claims.own s.claims.name) ∷ []) [] ≡ sent_by_frame s source (Claim name) frame verdict
sent-is s source name frame verdict b is =
    ap (λ d. cond d (ToAll (claim_from s.claims.own s.claims.name) ∷ []) []) is
    ∙ sym (ap (λ l. defence s source (Claim name) ++ l) (sent-acts s source name frame verdict) ∙ append-nil (defence s source (Claim name)))

module _ (s : State) (source name : ℕ) (frame : Frame) (verdict : Verdict) (b : Bool) (is : b ≡ is_defended (Claim name) (answer_to s source (Claim name))) where
  pub sent-nothing : (outputs : List Output) → b ≡ false → outputs ≡ outputs ++ outputs_of (sent_by_frame s source (Claim name) frame verdict)
  sent-nothing outputs not =
      sym (append-nil outputs) ∙ ap (λ (l : List Sent). outputs ++ outputs_of l)
      (ap (λ d. cond d (ToAll (claim_from s.claims.own s.claims.name) ∷ []) []) (sym not) ∙ sent-is s source name frame verdict b is)

  pub sent-defence : (t : State) (claim : Frame) (outputs after : List Output) → t ≡ before s source (Claim name) → claim ≡ claim_from t.claims.own t.claims.name → b ≡ true
      → after ≡ outputs ++ declared.Frame claim ∷ [] → after ≡ outputs ++ outputs_of (sent_by_frame s source (Claim name) frame verdict)
  sent-defence t claim outputs after t-is claim-is defends after-is =
      after-is ∙ ap (λ (f : Frame). outputs ++ declared.Frame f ∷ []) (claim-is ∙ ap (λ (x : State). claim_from x.claims.own x.claims.name) t-is)
      ∙ ap (λ (l : List Sent). outputs ++ outputs_of l)
      (ap (λ d. cond d (ToAll (claim_from s.claims.own s.claims.name) ∷ []) []) (sym defends) ∙ sent-is s source name frame verdict b is)
