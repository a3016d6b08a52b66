-- All right verdicts on an upload have the same effect and the same reply.
use Rattle.std.proofs.Common.{◌≡◌, ℕ, Bool, true, false, cond, eqb, List, [], ◌∷◌, Option, Some, None, refl, sym, ap, ap₂, subst, ◌∙◌}
use Rattle.vt_can.specs.declared.frames.frame.Frame.{Frame}
use Rattle.vt_names.specs.Registry.{Set}
use Rattle.vt_stores.specs.Stores.{ObjectMap, map_of}
use Rattle.vt_pool.specs.Pools.{PoolEntry, ReadingsAreOne, is_of_type}
use Rattle.vt_records.specs.declared.fault.PoolFault.{PoolFault}
use Rattle.vt_records.specs.declared.fault.PoolFault.TheVariants as faults
use Rattle.vt_verify.specs.Rules.{IsAcceptable, IsRefused, RefusalsAreOne, RefusalsAreTrue, SaysTheSame}
use Rattle.vt_chains.specs.Limits.{terminal}
use Rattle.vt_verify.specs.declared.refusal.Refusal.{Refusal}
use Rattle.vt_verify.specs.declared.refusal.Refusal.TheVariants as refusals
use Rattle.vt_server.specs.Judgements.{IsJudged, ends_transfer}
use Rattle.vt_server.specs.message.MessageEffects.{Handled, TRANSFER, END_OF_POOL, handled, transferred, end_handled, asked, ends_pool}
use Rattle.vt_node.specs.Messages.{technical_reply}
use Rattle.vt_node.specs.declared.profile.Profile.{Profile}
use Rattle.vt_server.specs.state.AddressViews.{AddressView, Hears, with_reply, with_frames_first, after_message, outcome}
use Rattle.vt_server.specs.state.AddressStates.{SetPool, heard_at}
use Rattle.vt_server.specs.frame.SessionEffects.{came}
use Rattle.vt_server.specs.message.Verdicts.{Verdict, Accepts, Faulty, Refuses, IsPool, IsFaulty, IsVerdict, merged, after_verdict, end_reply, refused_pool, fault_code, refusal_reply}
use Rattle.vt_node.specs.declared.bus.FrameMeaning.{FrameMeaning}
use Rattle.vt_node.specs.declared.bus.FrameMeaning.TheVariants.{Claim, ClaimRequest, Master, Member, Message, Tp, Etp, Nothing}
use Rattle.vt_kinds.specs.Ids.{null_id}

-- the laws on the reading and the verification of pools
pub record Judging : Type 0 where
  pub readings : ReadingsAreOne
  pub refused : RefusalsAreOne
  pub accepted : RefusalsAreTrue

-- Two verdicts have the same effect and the same reply.
record AreAlike (content : SetPool) (v w : Verdict) : Type 0 where
  pub leave : after_verdict content v ≡ after_verdict content w
  pub reply : end_reply v ≡ end_reply w

-- ---- the code of a fault, and the IDs in a refusal

code_is : (fault : PoolFault) → fault_code fault ≡ cond (is_of_type fault) 1 4
code_is (faults.Truncated at) = refl
code_is (faults.UnknownType at) = refl
code_is (faults.LeftOutType at) = refl
code_is (faults.Scale at) = refl
code_is (faults.Decimals at) = refl
code_is (faults.OutOfMemory at) = refl
code_is (faults.NullId at) = refl

named-alike : (r q : Refusal) → SaysTheSame r q → refusal_reply r ≡ refusal_reply q
named-alike (refusals.TooDeep chain) (refusals.TooDeep other) same = refl
named-alike (refusals.TooDeep chain) _ same = ap refusal_reply same
named-alike (refusals.MacroCircle path) (refusals.MacroCircle other) same = ap (λ (n : ℕ). refused_pool null_id n 4) same
named-alike (refusals.MacroCircle path) _ same = ap refusal_reply same
named-alike _ q same = ap refusal_reply same

module _ (judging : Judging) where
  -- ---- verdicts

  pool-one : (bytes : List ℕ) (p q : List PoolEntry) → IsPool bytes p → IsPool bytes q → p ≡ q
  pool-one bytes p q is other =
      judging.readings.pools is.records other.records p q is.whole other.whole (sym is.spelled ∙ other.spelled) is.in_force other.in_force

  pool-no-fault : {P : Type 0} (content : SetPool) (p : List PoolEntry) (fault : PoolFault) → IsPool content.transfer p → IsFaulty content fault → P
  pool-no-fault content p fault is faulty = absurd (faulty.named (judging.readings.faults content.transfer is.records fault is.whole is.spelled faulty.faulty))

  verdicts-alike : (content : SetPool) (v w : Verdict) → IsVerdict content v → IsVerdict content w → AreAlike content v w
  verdicts-alike content (Accepts a) (Accepts b) x y =
      let same : x.pool ≡ y.pool = pool-one content.transfer x.pool y.pool x.read y.read in
      let objects : a ≡ b = x.objects_are ∙ ap (λ (p : List PoolEntry). map_of (merged content.pool p)) same ∙ sym y.objects_are in
      record { leave = ap (λ (o : ObjectMap). after_verdict content (Accepts o)) objects; reply = refl }
  verdicts-alike content (Accepts a) (Faulty fault) x y = pool-no-fault content x.pool fault x.read y
  verdicts-alike content (Accepts a) (Refuses refusal) x y =
      let same : x.pool ≡ y.pool = pool-one content.transfer x.pool y.pool x.read y.read in
      let acceptable = subst (λ (p : List PoolEntry). IsAcceptable terminal (merged content.pool p)) same x.verified.acceptable in
      absurd (y.named (judging.accepted terminal (merged content.pool y.pool) refusal acceptable y.refused))
  verdicts-alike content (Faulty fault) (Accepts b) x y = pool-no-fault content y.pool fault y.read x
  verdicts-alike content (Faulty fault) (Faulty other) x y =
      let same = judging.readings.types content.transfer fault other x.faulty y.faulty x.named y.named in
      let code : fault_code fault ≡ fault_code other = code_is fault ∙ ap (λ (b : Bool). cond b 1 4) same ∙ sym (code_is other) in
      record { leave = refl; reply = ap (refused_pool null_id null_id) code }
  verdicts-alike content (Faulty fault) (Refuses refusal) x y = pool-no-fault content y.pool fault y.read x
  verdicts-alike content (Refuses refusal) (Accepts b) x y =
      let same : y.pool ≡ x.pool = pool-one content.transfer y.pool x.pool y.read x.read in
      let acceptable = subst (λ (p : List PoolEntry). IsAcceptable terminal (merged content.pool p)) same y.verified.acceptable in
      absurd (x.named (judging.accepted terminal (merged content.pool x.pool) refusal acceptable x.refused))
  verdicts-alike content (Refuses refusal) (Faulty fault) x y = pool-no-fault content x.pool fault x.read y
  verdicts-alike content (Refuses refusal) (Refuses other) x y =
      let same : x.pool ≡ y.pool = pool-one content.transfer x.pool y.pool x.read y.read in
      let refused = subst (λ (p : List PoolEntry). IsRefused terminal (merged content.pool p) refusal) same x.refused in
      let says = judging.refused terminal (merged content.pool y.pool) refusal other refused y.refused x.named y.named in
      record { leave = refl; reply = named-alike refusal other says }

  -- ---- the message that ends an upload

  abbrev answered_by : SetPool → List ℕ → Handled
  answered_by content reply = record { content = content; reply = Some reply }

  handled-one : (profile : Profile) (content : SetPool) (v w : Verdict) (bytes : List ℕ) → (ends_pool bytes ≡ true → IsVerdict content v) → (ends_pool bytes ≡ true → IsVerdict content w)
      → handled profile content v bytes ≡ handled profile content w bytes
  handled-one profile content v w [] right too = refl
  handled-one profile content v w (function ∷ bytes) right too = cases (eqb function TRANSFER) (eqb function END_OF_POOL) right too
    where
      all : List ℕ
      all = function ∷ bytes

      cases : (b c : Bool) → (c ≡ true → IsVerdict content v) → (c ≡ true → IsVerdict content w)
          → cond b (transferred content bytes) (cond c (end_handled content v) (asked content all (technical_reply profile all)))
          ≡ cond b (transferred content bytes) (cond c (end_handled content w) (asked content all (technical_reply profile all)))
      cases true c right too = refl
      cases false true right too =
          let alike = verdicts-alike content v w (right refl) (too refl) in
          ap₂ answered_by alike.leave alike.reply
      cases false false right too = refl

  message-one : (a : ℕ) (p : AddressView) (v w : Verdict) (o : Option Set) (message : Option (List ℕ)) → (ends_transfer o message ≡ true → IsVerdict p.place.content v)
      → (ends_transfer o message ≡ true → IsVerdict p.place.content w) → after_message a p v o message ≡ after_message a p w o message
  message-one a p v w (Some set) (Some bytes) right too = ap (with_reply a p) (handled-one p.profile p.place.content v w bytes right too)
  message-one a p v w (Some set) None right too = refl
  message-one a p v w None message right too = refl

  -- ---- the outcome of a frame at an address

  pub heard-one : (now a : ℕ) (p : AddressView) (n : FrameMeaning) (f : Frame) (v w : Verdict) → IsJudged now a p n f v → IsJudged now a p n f w
      → outcome now a p (Hears n f v) ≡ outcome now a p (Hears n f w)
  heard-one now a p (Claim name) f v w judged too = refl
  heard-one now a p (Master count) f v w judged too = refl
  heard-one now a p (Member name) f v w judged too = refl
  heard-one now a p ClaimRequest f v w judged too =
      ap (with_frames_first []) (message-one a (record p { place = heard_at now p.place }) v w p.set None (λ e. judged e) (λ e. too e))
  heard-one now a p Nothing f v w judged too =
      ap (with_frames_first []) (message-one a (record p { place = heard_at now p.place }) v w p.set None (λ e. judged e) (λ e. too e))
  heard-one now a p Message f v w judged too =
      ap (with_frames_first []) (message-one a (record p { place = (came now p.terminal a (heard_at now p.place) Message f).place }) v w p.set (Some f.bytes.items) judged too)
  heard-one now a p Tp f v w judged too =
      let c = came now p.terminal a (heard_at now p.place) Tp f in
      ap (with_frames_first c.frames) (message-one a (record p { place = c.place }) v w p.set c.message judged too)
  heard-one now a p Etp f v w judged too =
      let c = came now p.terminal a (heard_at now p.place) Etp f in
      ap (with_frames_first c.frames) (message-one a (record p { place = c.place }) v w p.set c.message judged too)
