-- The work done in advance for a frame is right after the timeouts and closings of its time.
use Rattle.std.proofs.Common.{◌≡◌, ◌<◌, ℕ, Bool, true, false, cond, eqb, max, Option, Some, None, refl, sym, ap, subst, ◌∙◌, arith}
use Rattle.std.specs.FinMap as finite
use Rattle.vt_can.specs.Assigned.{ECU_TO_VT, TP_TIMEOUT, ETP_TIMEOUT}
use Rattle.vt_can.specs.declared.frames.frame.Frame.{Frame}
use Rattle.vt_can.specs.frames.Frame.{source_of}
use Rattle.vt_can.specs.transport.Messages.{Message, size_and_first_byte}
use Rattle.vt_can.specs.transport.Receivers.{HasCapacityFor}
use Rattle.vt_can.specs.transport.Sessions.{alive}
use Rattle.vt_can.specs.transport.Steps.{stepped}
use Rattle.vt_names.specs.Claims.{Claimed, heard, answer, address_of, holder_of}
use Rattle.vt_server.specs.shown.ShownSet.{display}
use Rattle.vt_transport.specs.Protocol as tp
use Rattle.vt_transport.specs.Wire.{tp_frame}
use Rattle.vt_extended.specs.Protocol as etp
use Rattle.vt_extended.specs.Wire.{etp_frame}
use Rattle.vt_server.specs.frame.FrameContracts.{FitsBeforeTimeouts, FitsAfterTimeouts, FitsMessage, FitsCompleted, CapacityStays}
use Rattle.vt_server.specs.frame.HoldersBeforeClaim.{AreFormer}
use Rattle.vt_server.specs.frame.TimeoutActs.{at_time, lapsed, sent_by_lapses}
use Rattle.vt_node.specs.Nodes.{NodeState}
use Rattle.vt_server.specs.state.AddressStates.{SetPool, watched}
use Rattle.vt_server.specs.frame.TimeoutContracts.{HasLapsed}
use Rattle.vt_server.specs.frame.SessionEffects.{message_to_terminal}
use Rattle.vt_server.specs.States.{state_of}
use Rattle.vt_server.specs.Steps.{receive_claim, answer_to, is_lost_by, is_defended, former_address, former_holder}
use Rattle.vt_server.specs.Terminals.{State}
use Rattle.vt_server.specs.state.PoolTables.{content_of, spare_of}
use Rattle.vt_node.specs.declared.bus.FrameMeaning.{FrameMeaning}
use Rattle.vt_node.specs.declared.bus.FrameMeaning.TheVariants as meanings
use Rattle.vt_server.specs.declared.frame.claim.FormerHolders.{FormerHolders}
use Rattle.vt_server.specs.declared.frame.step.PreparedFrame.{PreparedFrame}
use Rattle.vt_server.specs.declared.frame.step.PreparedFrame.TheVariants as readies
use Rattle.vt_server.specs.declared.terminal.Terminal.{Terminal}
use Rattle.vt_server.specs.declared.message.upload.PreparedMessage.{PreparedMessage}
use Rattle.vt_server.proofs.lemmas.acts.HolderChanges.{own-before}
use Rattle.vt_server.proofs.lemmas.frame.FrameStep.{capacity-kept, lapsed-upload}
use Rattle.vt_server.proofs.lemmas.steps.StepInvariants.{lapsed-keeps, claims-lapsed}
use Rattle.vt_server.proofs.lemmas.acts.ComposedActs.{act-is}
use Rattle.vt_server.proofs.lemmas.timeouts.IndependenceOfClaims.{with_claims, lapsed-unclaimed, lapses-unclaimed}

-- ---- facts that depend on the claims alone

module _ (s u : State) (same : u.claims ≡ s.claims) where
  answer-same : (a : ℕ) (n : FrameMeaning) → answer_to s a n ≡ answer_to u a n
  answer-same a (meanings.Claim name) = ap (λ c. answer c a name) (sym same)
  answer-same a meanings.ClaimRequest = refl
  answer-same a (meanings.Master count) = refl
  answer-same a (meanings.Member name) = refl
  answer-same a meanings.Message = refl
  answer-same a meanings.Tp = refl
  answer-same a meanings.Etp = refl
  answer-same a meanings.Nothing = refl

  claim-same : (a : ℕ) (n : FrameMeaning) → receive_claim s a n ≡ receive_claim u a n
  claim-same a (meanings.Claim name) = ap (λ c. heard c a name) (sym same)
  claim-same a meanings.ClaimRequest = sym same
  claim-same a (meanings.Master count) = sym same
  claim-same a (meanings.Member name) = sym same
  claim-same a meanings.Message = sym same
  claim-same a meanings.Tp = sym same
  claim-same a meanings.Etp = sym same
  claim-same a meanings.Nothing = sym same

  holder-same : (o : Option ℕ) → former_holder s o ≡ former_holder u o
  holder-same None = refl
  holder-same (Some left) = ap (λ (c : Claimed). holder_of c.addresses left) (sym same)

  former-same : (a name : ℕ) (former : FormerHolders) → AreFormer s a name former → AreFormer u a name former
  former-same a name former are = record {
    address = are.address ∙ ap (λ (c : Claimed). former_address a (address_of c.addresses name)) (sym same);
    address_holder = are.address_holder ∙ holder-same former.address;
    holder = are.holder ∙ ap (λ (c : Claimed). holder_of c.addresses a) (sym same);
  }

now-lapsed : (s : State) → (lapsed s).now ≡ s.now
now-lapsed s = lapsed-keeps (λ t. t.now ≡ s.now) (λ t a h is. ap (λ (u : State). u.now) (act-is t a h) ∙ is) s refl

-- ---- the work done in advance for a message in packets

abbrev IsTp : FrameMeaning → Type 0
IsTp meanings.Tp = Unit {0}
IsTp meaning = ⊥

abbrev IsEtp : FrameMeaning → Type 0
IsEtp meanings.Etp = Unit {0}
IsEtp meaning = ⊥

completed-ready : (m : Option Message) (content : SetPool) (spare : ℕ) (upload : PreparedMessage)
    → ((message : Message) → size_and_first_byte m ≡ size_and_first_byte (Some message) → FitsMessage content spare message.bytes upload)
    → FitsCompleted content spare (message_to_terminal m) upload
completed-ready None content spare upload ready = tt
completed-ready (Some message) content spare upload ready = cases (eqb message.pgn ECU_TO_VT)
  where
    cases : (b : Bool) → FitsCompleted content spare (cond b (Some message.bytes) None) upload
    cases true = ready message refl
    cases false = tt

-- The terminal before, its node with reserved capacity, and the terminal after the work in advance for the upload.
module _ (t : Terminal) (node : NodeState) (u : Terminal) (now q : ℕ) (n : FrameMeaning) (frame : Frame) (completed : Option (ℕ × ℕ)) (upload : PreparedMessage)
    (same : state_of u ≡ state_of (record t { node = node })) (reserved : CapacityStays (record t { node = node }) u) (at : q ≡ source_of frame)
    (ready : (message : Message) → completed ≡ size_and_first_byte (Some message) → FitsMessage (content_of u.contents q) (spare_of u.contents q) message.bytes upload) where
  abbrev b : ℕ
  b = source_of frame

  message-ready : (m : Option Message) → completed ≡ size_and_first_byte m → FitsCompleted (content_of u.contents b) (spare_of u.contents b) (message_to_terminal m) upload
  message-ready m is =
      completed-ready m (content_of u.contents b) (spare_of u.contents b) upload
      (λ message e. subst (λ c. FitsMessage (content_of u.contents c) (spare_of u.contents c) message.bytes upload) at (ready message (is ∙ e)))

  pub prepared-tp : n ≡ meanings.Tp → node ≡ record t.node { tp_spare = node.tp_spare } → HasCapacityFor tp.protocol (tp_frame t.node.claims.own frame) node.tp_spare
      → completed ≡ size_and_first_byte (stepped tp.protocol now (alive TP_TIMEOUT now (finite.get t.node.tp b)) (tp_frame t.node.claims.own frame)).message
      → FitsBeforeTimeouts (state_of t) u now n frame (readies.Prepared upload)
  prepared-tp is rest spare completed-is =
      subst (λ m. FitsBeforeTimeouts (state_of t) u now m frame (readies.Prepared upload)) (sym is) (
        same ∙ ap (λ (k : NodeState). state_of (record t { node = k })) rest,
        (λ name e. subst IsTp e tt),
        record {
          tp = λ _. subst (λ (k : NodeState). HasCapacityFor tp.protocol (tp_frame k.claims.own frame) k.tp_spare) (sym (reserved.node ∙ rest)) spare;
          etp = λ e. absurd (subst IsTp e tt);
          sets = λ count e. absurd (subst IsTp e tt);
        },
        subst (λ (k : NodeState). FitsCompleted (content_of u.contents b) (spare_of u.contents b)
            (message_to_terminal (stepped tp.protocol now (alive TP_TIMEOUT now (finite.get k.tp b)) (tp_frame k.claims.own frame)).message) upload) (sym (reserved.node ∙ rest))
            (message-ready (stepped tp.protocol now (alive TP_TIMEOUT now (finite.get t.node.tp b)) (tp_frame t.node.claims.own frame)).message completed-is),
      )

  pub prepared-etp : n ≡ meanings.Etp → node ≡ record t.node { etp_spare = node.etp_spare } → HasCapacityFor etp.protocol (etp_frame t.node.claims.own frame) node.etp_spare
      → completed ≡ size_and_first_byte (stepped etp.protocol now (alive ETP_TIMEOUT now (finite.get t.node.etp b)) (etp_frame t.node.claims.own frame)).message
      → FitsBeforeTimeouts (state_of t) u now n frame (readies.Prepared upload)
  prepared-etp is rest spare completed-is =
      subst (λ m. FitsBeforeTimeouts (state_of t) u now m frame (readies.Prepared upload)) (sym is) (
        same ∙ ap (λ (k : NodeState). state_of (record t { node = k })) rest,
        (λ name e. subst IsEtp e tt),
        record {
          tp = λ e. absurd (subst IsEtp e tt);
          etp = λ _. subst (λ (k : NodeState). HasCapacityFor etp.protocol (etp_frame k.claims.own frame) k.etp_spare) (sym (reserved.node ∙ rest)) spare;
          sets = λ count e. absurd (subst IsEtp e tt);
        },
        subst (λ (k : NodeState). FitsCompleted (content_of u.contents b) (spare_of u.contents b)
            (message_to_terminal (stepped etp.protocol now (alive ETP_TIMEOUT now (finite.get k.etp b)) (etp_frame k.claims.own frame)).message) upload) (sym (reserved.node ∙ rest))
            (message-ready (stepped etp.protocol now (alive ETP_TIMEOUT now (finite.get t.node.etp b)) (etp_frame t.node.claims.own frame)).message completed-is),
      )

-- ---- the timeouts and closings keep the work right

module _ (s : State) (t : Terminal) (time now : ℕ) (n : FrameMeaning) (frame : Frame) (is : now ≡ max s.now time) where
  abbrev a : ℕ
  a = source_of frame

  abbrev pub then : State
  then = lapsed (at_time s time)

  later : max s.now now ≡ max s.now time
  later = ap (max s.now) is ∙ omega arith

  timed : at_time s now ≡ at_time s time
  timed = ap (λ m. record s { now = m; places = λ b. watched m (s.places b) }) later

  abbrev claims : then.claims ≡ s.claims
  claims = claims-lapsed (at_time s time)

  abbrev with_claim : Claimed
  with_claim = receive_claim s a n

  pub prepared-display : (ready : PreparedFrame) → FitsBeforeTimeouts s t now n frame ready → display (state_of t) ≡ display s
  unfolding display
  prepared-display readies.Loses it = ap display it.0
  prepared-display (readies.Claimed former) it = ap display it.5
  prepared-display (readies.Prepared upload) it = ap display it.0

  pub prepared-sent : (ready : PreparedFrame) → FitsBeforeTimeouts s t now n frame ready → sent_by_lapses (at_time (state_of t) now) ≡ sent_by_lapses (at_time s time)
  prepared-sent readies.Loses it = ap (λ x. sent_by_lapses (at_time x now)) it.0 ∙ ap sent_by_lapses timed
  prepared-sent (readies.Claimed former) it =
      ap (λ x. sent_by_lapses (at_time x now)) it.5
      ∙ lapses-unclaimed with_claim (at_time s now) (own-before s a n) ∙ ap sent_by_lapses timed
  prepared-sent (readies.Prepared upload) it = ap (λ x. sent_by_lapses (at_time x now)) it.0 ∙ ap sent_by_lapses timed

  module _ (u : Terminal) (lapse : state_of u ≡ lapsed (at_time (state_of t) now)) (ended : HasLapsed t u now) where
    same : state_of t ≡ s → state_of u ≡ then
    same e = lapse ∙ ap (λ x. lapsed (at_time x now)) e ∙ ap lapsed timed

    time-then : state_of t ≡ s → u.time ≡ now
    time-then e = ap (λ (x : State). x.now) (same e) ∙ now-lapsed (at_time s time) ∙ sym is

    capacity : 0 < t.registry.capacity → 0 < u.registry.capacity
    capacity some = let more = ended.sets in omega arith

    pub ready-then : (ready : PreparedFrame) → FitsBeforeTimeouts s t now n frame ready → FitsAfterTimeouts then u n frame ready
    ready-then readies.Loses it = (same it.0, ap is_lost_by (sym (answer-same s then claims a n)) ∙ it.1)
    ready-then (readies.Claimed former) it = (
      it.0,
      it.1,
      ap is_lost_by (sym (answer-same s then claims a n)) ∙ it.2,
      former-same s then claims a it.0 former it.3,
      it.4 ∙ ap (is_defended n) (answer-same s then claims a n),
      lapse ∙ ap (λ x. lapsed (at_time x now)) it.5
          ∙ lapsed-unclaimed with_claim (at_time s now) (own-before s a n)
          ∙ ap (λ x. with_claims with_claim (lapsed x)) timed
          ∙ ap (λ c. with_claims c then) (claim-same s then claims a n),
    )
    ready-then (readies.Prepared upload) it = (
      same it.0,
      it.1,
      capacity-kept t u n frame ended.claims ended.tp_spare ended.etp_spare capacity it.2,
      lapsed-upload t u n frame now upload ended (time-then it.0) it.3,
    )
