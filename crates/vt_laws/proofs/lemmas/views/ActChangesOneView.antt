-- An act at one address changes the view of that address alone.
use Rattle.std.proofs.Common.{◌≡◌, ◌≢◌, ℕ, Bool, true, false, cond, ◌||◌, List, [], ◌∷◌, ◌++◌, map, Option, Some, None, refl, sym, ap, subst, ◌∙◌, eq-eqb, ne_eqb, nat_eq, append-nil, append_assoc}
use Rattle.std.specs.Option.{option_eq}
use Rattle.vt_can.specs.declared.frames.frame.Frame.{Frame}
use Rattle.vt_machine.specs.SetStates.{SetState}
use Rattle.vt_machine.specs.OperatorActions as operating
use Rattle.vt_names.specs.Registry.{Set, set_at, with_set, without, has_place, with_member, preloaded}
use Rattle.vt_can.specs.lines.Actions.{ActionValue}
use Rattle.vt_laws.specs.Responses.{response_of, frame_to, frames_to}
use Rattle.vt_server.specs.operator.ActionEffects.{action_on, is_busy}
use Rattle.vt_server.specs.state.AddressViews.{AddressView, AddressOutcome, Act, Hears, Rebinds, Preloads, TpExpires, EtpExpires, SendingExpires, FallsSilent, Operates, Raises, unchanged, without_set, outcome, after_change, with_holder_name, after_claim_heard, after_master, after_member, after_message, after_action, after_operator, untimed_part}
use Rattle.vt_server.specs.state.AddressStates.{AddressState, heard_at}
use Rattle.vt_server.specs.frame.SessionEffects.{came}
use Rattle.vt_server.specs.Terminals.{State, Sent, ToOne, part, after_act, after_acts, sent_by_act, sent_by_acts, to_address, sent_refusal, with_set_at}
use Rattle.vt_server.specs.message.Verdicts.{Verdict}
use Rattle.vt_node.specs.declared.bus.FrameMeaning.{FrameMeaning}
use Rattle.vt_node.specs.declared.bus.FrameMeaning.TheVariants.{Claim, ClaimRequest, Master, Member, Message, Tp, Etp, Nothing}
use Rattle.vt_server.specs.declared.output.OperatorFault.{OperatorFault}
use Rattle.vt_server.proofs.lemmas.acts.ActLists.{of}
use Rattle.vt_server.proofs.lemmas.acts.ComposedActs.{act-is, sent_by_one-is}
use Rattle.vt_node.proofs.Sets.{at-with_other}
use Rattle.vt_node.proofs.ByAddress.{at-own, at-other}
use Rattle.vt_laws.proofs.lemmas.views.OutcomesWithoutTimes.{Laws, outcome-timeless}
use Rattle.vt_server.proofs.lemmas.timeouts.SilentSets.{without-own}
use Rattle.vt_names.proofs.SetsByAddress.{set_at-first, set_at-later, with_set-first, with_set-later, without-first, without-later, set_at-address}
use Rattle.vt_names.proofs.AddressesAfterClaim.{by_eq}

-- ---- the set after an act

pub message-set : (a : ℕ) (p : AddressView) (verdict : Verdict) (o : Option Set) (bytes : Option (List ℕ)) → (after_message a p verdict o bytes).set ≡ p.set
message-set a p verdict None bytes = refl
message-set a p verdict (Some set) None = refl
message-set a p verdict (Some set) (Some bytes) = refl

either-set : (b : Bool) (x y : AddressOutcome) (set : Option Set) → x.set ≡ set → y.set ≡ set → (cond b x y).set ≡ set
either-set true x y set first second = first
either-set false x y set first second = second

action-set : (now a : ℕ) (p : AddressView) (o : Option operating.ActionResult) → (after_action now a p o).set ≡ p.set
action-set now a p None = refl
action-set now a p (Some (operating.Refused refusal)) = refl
action-set now a p (Some (operating.Acts message start raised)) = either-set (is_busy message p.place.sending) _ _ p.set refl refl

pub operator-set : (now a : ℕ) (p : AddressView) (action : ActionValue) (shown : Bool) (o : Option SetState) → (after_operator now a p action shown o).set ≡ p.set
operator-set now a p action shown None = refl
operator-set now a p action shown (Some state) = action-set now a p (action_on state shown action)

-- A predicate that holds for the set after claims, registration, a change of the holder and a preload.
pub record HoldsOfSets (Q : Option Set → Type 0) (a : ℕ) (p : AddressView) : Type 0 where
  pub none : Q None
  pub same : Q p.set
  pub claim : (place : AddressState) → Q (after_claim_heard (record p { place = place }) p.set).set
  pub master : (place : AddressState) (count : ℕ) → Q (after_master a (record p { place = place }) p.holder count).set
  pub member : (place : AddressState) (name : ℕ) → Q (after_member (record p { place = place }) p.set name).set
  pub rebound : Q (after_change p p.set).set
  pub preloaded : Q (Some (preloaded a))

-- The predicate holds for the set after any act.
module _ (Q : Option Set → Type 0) (now a : ℕ) (p : AddressView) (holds : HoldsOfSets Q a p) where
  came-holds : (n : FrameMeaning) (frame : Frame) (verdict : Verdict) → let c = came now p.terminal a (heard_at now p.place) n frame in
      Q (after_message a (record p { place = c.place }) verdict p.set c.message).set
  came-holds n frame verdict =
      let c = came now p.terminal a (heard_at now p.place) n frame in
      subst Q (sym (message-set a (record p { place = c.place }) verdict p.set c.message)) holds.same

  pub outcome-holds : (h : Act) → Q (outcome now a p h).set
  outcome-holds (Hears (Claim name) frame verdict) = holds.claim (heard_at now p.place)
  outcome-holds (Hears ClaimRequest frame verdict) = came-holds ClaimRequest frame verdict
  outcome-holds (Hears (Master count) frame verdict) = holds.master (heard_at now p.place) count
  outcome-holds (Hears (Member name) frame verdict) = holds.member (heard_at now p.place) name
  outcome-holds (Hears Message frame verdict) = came-holds Message frame verdict
  outcome-holds (Hears Tp frame verdict) = came-holds Tp frame verdict
  outcome-holds (Hears Etp frame verdict) = came-holds Etp frame verdict
  outcome-holds (Hears Nothing frame verdict) = came-holds Nothing frame verdict
  outcome-holds Rebinds = holds.rebound
  outcome-holds (Preloads contents) = holds.preloaded
  outcome-holds TpExpires = holds.same
  outcome-holds EtpExpires = holds.same
  outcome-holds SendingExpires = holds.same
  outcome-holds FallsSilent = holds.none
  outcome-holds (Operates action shown) = subst Q (sym (operator-set now a p action shown p.place.content.pool)) holds.same
  outcome-holds (Raises event) = holds.same

-- ---- the address of a set is unchanged

abbrev pub HasAddress : ℕ → Option Set → Type 0
HasAddress a None = Unit {0}
HasAddress a (Some s) = s.address ≡ a

pub part-address : (a : ℕ) (s : State) → HasAddress a (set_at a s.sets)
part-address a s = cases (set_at a s.sets) refl
  where
    cases : (o : Option Set) → set_at a s.sets ≡ o → HasAddress a o
    cases None e = tt
    cases (Some x) e = set_at-address a x s.sets e

kept-address : (a : ℕ) (p : AddressView) (b : Bool) → HasAddress a p.set → HasAddress a (cond b (unchanged p) (without_set p)).set
kept-address a p true has = has
kept-address a p false has = tt

rebound-address : (a : ℕ) (p : AddressView) (o : Option Set) → HasAddress a p.set → HasAddress a (after_change p o).set
rebound-address a p None has = has
rebound-address a p (Some set) has = kept-address a p (option_eq nat_eq set.name None || option_eq nat_eq set.name p.holder) has

pub named-address : (set : Set) (x y : Option ℕ) → (with_holder_name set x y).address ≡ set.address
named-address set None None = refl
named-address set None (Some h) = refl
named-address set (Some n) None = refl
named-address set (Some n) (Some h) = refl

claim-address : (a : ℕ) (p : AddressView) (o : Option Set) → HasAddress a p.set → HasAddress a o → HasAddress a (after_claim_heard p o).set
claim-address a p None has its = has
claim-address a p (Some set) has its = named-address set set.name p.holder ∙ its

master-address : (a : ℕ) (p : AddressView) (o : Option ℕ) (count : ℕ) → HasAddress a p.set → HasAddress a (after_master a p o count).set
master-address a p None count has = has
master-address a p (Some h) count has = refl

join-address : (b : Bool) (set : Set) (name : ℕ) → (cond b (with_member set name) set).address ≡ set.address
join-address true set name = refl
join-address false set name = refl

member-address : (a : ℕ) (p : AddressView) (o : Option Set) (name : ℕ) → HasAddress a p.set → HasAddress a o → HasAddress a (after_member p o name).set
member-address a p None name has its = has
member-address a p (Some set) name has its = join-address (has_place set) set name ∙ its

pub outcome-address : (now a : ℕ) (p : AddressView) (h : Act) → HasAddress a p.set → HasAddress a (outcome now a p h).set
outcome-address now a p h has = outcome-holds (HasAddress a) now a p (record {
  none = tt;
  same = has;
  claim = λ place. claim-address a (record p { place = place }) p.set has has;
  master = λ place count. master-address a (record p { place = place }) p.holder count has;
  member = λ place name. member-address a (record p { place = place }) p.set name has has;
  rebound = rebound-address a p p.set has;
  preloaded = refl;
}) h

-- ---- a written set, at its address and at others

at-with : (a : ℕ) (x : Set) (sets : List Set) → x.address ≡ a → set_at a (with_set x sets) ≡ Some x
at-with a x [] its = set_at-first a x [] its
at-with a x (t ∷ sets) its =
    let rest = at-with a x sets its in
    by_eq t.address x.address
    (λ is. ap (set_at a) (with_set-first x t sets is) ∙ set_at-first a x sets its)
    (λ ne. ap (set_at a) (with_set-later x t sets ne) ∙ set_at-later a t (with_set x sets) (λ h. ne (h ∙ sym its)) ∙ rest)

at-without_other : (a b : ℕ) (sets : List Set) → a ≢ b → set_at a (without b sets) ≡ set_at a sets
at-without_other a b [] ne = refl
at-without_other a b (t ∷ sets) ne =
    let rest = at-without_other a b sets ne in
    by_eq t.address b
    (λ is. ap (set_at a) (without-first b t sets is) ∙ rest ∙ sym (set_at-later a t sets (λ h. ne (sym h ∙ is))))
    (λ other. ap (set_at a) (without-later b t sets other) ∙ by_eq t.address a
    (λ h. set_at-first a t (without b sets) h ∙ sym (set_at-first a t sets h))
    (λ h. set_at-later a t (without b sets) h ∙ rest ∙ sym (set_at-later a t sets h)))

at-put : (a : ℕ) (o : Option Set) (sets : List Set) → HasAddress a o → set_at a (with_set_at a o sets) ≡ o
at-put a None sets has = without-own a sets
at-put a (Some x) sets has = at-with a x sets has

at-put_other : (a b : ℕ) (o : Option Set) (sets : List Set) → HasAddress b o → a ≢ b → set_at a (with_set_at b o sets) ≡ set_at a sets
at-put_other a b None sets has ne = at-without_other a b sets ne
at-put_other a b (Some x) sets has ne = at-with_other a x sets (λ h. ne (sym h ∙ has))

-- ---- the view of an address after an act

pub part-act : (a : ℕ) (s : State) (h : Act) → let after = outcome s.now a (part a s) h in
    part a (after_act s a h) ≡ record (part a s) { set = after.set; place = after.place }
part-act a s h =
    let after = outcome s.now a (part a s) h in
    ap (part a) (act-is s a h)
    ∙ (λ i. record (part a s) {
      set = at-put a after.set s.sets (outcome-address s.now a (part a s) h (part-address a s)) i;
      place = at-own a s.places after.place i;
    })

-- the view of an address without times
abbrev pub bare : ℕ → State → AddressView
bare a s = untimed_part (part a s)

pub bare-act : (laws : Laws) (a : ℕ) (s : State) (h : Act) → bare a (after_act s a h) ≡ (response_of (bare a s) (outcome 0 a (bare a s) h)).part
bare-act laws a s h =
    ap untimed_part (part-act a s h)
    ∙ ap (λ (o : AddressOutcome). record (part a s) { set = o.set; place = o.place }) (outcome-timeless laws s.now a (part a s) h)

pub part-act_other : (a b : ℕ) (s : State) (h : Act) → a ≢ b → part a (after_act s b h) ≡ part a s
part-act_other a b s h ne =
    let after = outcome s.now b (part b s) h in
    ap (part a) (act-is s b h)
    ∙ (λ i. record (part a s) {
      set = at-put_other a b after.set s.sets (outcome-address s.now b (part b s) h (part-address b s)) ne i;
      place = at-other b a s.places after.place ne i;
    })

pub bare-act_other : (a b : ℕ) (s : State) (h : Act) → a ≢ b → bare a (after_act s b h) ≡ bare a s
bare-act_other a b s h ne = ap untimed_part (part-act_other a b s h ne)

-- ---- frames

pub frames-append : (a : ℕ) (xs ys : List Sent) → frames_to a (xs ++ ys) ≡ frames_to a xs ++ frames_to a ys
frames-append a [] ys = refl
frames-append a (x ∷ xs) ys =
    ap (λ l. frame_to a x ++ l) (frames-append a xs ys) ∙ sym (append_assoc (frame_to a x) (frames_to a xs) (frames_to a ys))

frames-own : (a : ℕ) (frames : List Frame) → frames_to a (map (ToOne a) frames) ≡ frames
frames-own a [] = refl
frames-own a (f ∷ frames) =
    ap (λ b. cond b (f ∷ []) [] ++ frames_to a (map (ToOne a) frames)) (eq-eqb a a refl) ∙ ap (λ l. f ∷ l) (frames-own a frames)

frames-other : (a b : ℕ) (frames : List Frame) → a ≢ b → frames_to a (map (ToOne b) frames) ≡ []
frames-other a b [] ne = refl
frames-other a b (f ∷ frames) ne =
    ap (λ c. cond c (f ∷ []) [] ++ frames_to a (map (ToOne b) frames)) (ne_eqb b a (λ h. ne (sym h))) ∙ frames-other a b frames ne

frames-refusal : (a : ℕ) (o : Option OperatorFault) → frames_to a (sent_refusal o) ≡ []
frames-refusal a None = refl
frames-refusal a (Some fault) = refl

frames-there : (a : ℕ) (after : AddressOutcome) → frames_to a (to_address a after) ≡ after.frames
frames-there a after =
    frames-append a (map (ToOne a) after.frames) (sent_refusal after.refused)
    ∙ (λ i. frames-own a after.frames i ++ frames-refusal a after.refused i) ∙ append-nil after.frames

frames-elsewhere : (a b : ℕ) (after : AddressOutcome) → a ≢ b → frames_to a (to_address b after) ≡ []
frames-elsewhere a b after ne =
    frames-append a (map (ToOne b) after.frames) (sent_refusal after.refused)
    ∙ (λ i. frames-other a b after.frames ne i ++ frames-refusal a after.refused i)

-- ---- the acts at an address among all acts

abbrev pub turns : ℕ → AddressView → List Act → AddressView
turns a p [] = p
turns a p (h ∷ hs) = turns a (response_of p (outcome 0 a p h)).part hs

abbrev pub turns_frames : ℕ → AddressView → List Act → List Frame
turns_frames a p [] = []
turns_frames a p (h ∷ hs) = (outcome 0 a p h).frames ++ turns_frames a (response_of p (outcome 0 a p h)).part hs

module _ (laws : Laws) where
  pub part-acts : (a : ℕ) (s : State) (hs : List (ℕ × Act)) → bare a (after_acts s hs) ≡ turns a (bare a s) (of a hs)
  part-acts a s [] = refl
  part-acts a s (h ∷ hs) =
      let rest = part-acts a (after_act s h.0 h.1) hs in
      by_eq h.0 a
      (λ is.
      rest ∙ ap (λ p. turns a p (of a hs)) (ap (λ b. bare a (after_act s b h.1)) is ∙ bare-act laws a s h.1)
      ∙ sym (ap (λ b. turns a (bare a s) (cond b (h.1 ∷ of a hs) (of a hs))) (eq-eqb h.0 a is)))
      (λ ne.
      rest ∙ ap (λ p. turns a p (of a hs)) (bare-act_other a h.0 s h.1 (λ e. ne (sym e)))
      ∙ sym (ap (λ b. turns a (bare a s) (cond b (h.1 ∷ of a hs) (of a hs))) (ne_eqb h.0 a ne)))

  pub frames-sent_by : (a : ℕ) (s : State) (hs : List (ℕ × Act)) → frames_to a (sent_by_acts s hs) ≡ turns_frames a (bare a s) (of a hs)
  frames-sent_by a s [] = refl
  frames-sent_by a s (h ∷ hs) =
      let rest = frames-sent_by a (after_act s h.0 h.1) hs in
      let first = outcome s.now h.0 (part h.0 s) h.1 in
      frames-append a (sent_by_act s h.0 h.1) (sent_by_acts (after_act s h.0 h.1) hs)
      ∙ by_eq h.0 a
      (λ is.
      (λ i. frames_to a (sent_by_act s (is i) h.1) ++ frames_to a (sent_by_acts (after_act s h.0 h.1) hs))
      ∙ ap (λ l. l ++ frames_to a (sent_by_acts (after_act s h.0 h.1) hs))
      (ap (frames_to a) (sent_by_one-is s a h.1) ∙ frames-there a (outcome s.now a (part a s) h.1)
      ∙ ap (λ (o : AddressOutcome). o.frames) (outcome-timeless laws s.now a (part a s) h.1))
      ∙ ap (λ l. (outcome 0 a (bare a s) h.1).frames ++ l)
      (rest ∙ ap (λ p. turns_frames a p (of a hs)) (ap (λ b. bare a (after_act s b h.1)) is ∙ bare-act laws a s h.1))
      ∙ sym (ap (λ b. turns_frames a (bare a s) (cond b (h.1 ∷ of a hs) (of a hs))) (eq-eqb h.0 a is)))
      (λ ne.
      ap (λ l. l ++ frames_to a (sent_by_acts (after_act s h.0 h.1) hs)) (ap (frames_to a) (sent_by_one-is s h.0 h.1) ∙ frames-elsewhere a h.0 first (λ e. ne (sym e)))
      ∙ rest ∙ ap (λ p. turns_frames a p (of a hs)) (bare-act_other a h.0 s h.1 (λ e. ne (sym e)))
      ∙ sym (ap (λ b. turns_frames a (bare a s) (cond b (h.1 ∷ of a hs) (of a hs))) (ne_eqb h.0 a ne)))
