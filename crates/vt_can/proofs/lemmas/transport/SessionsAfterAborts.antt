-- Overdue sessions after their aborts, and a receiver that serves an input.
use Rattle.std.proofs.Common.{◌≡◌, ℕ, ◌-◌, ◌<◌, Bool, true, false, cond, eqb, Option, Some, None, is_some, ap, ap₂, sym, subst, ◌∙◌, refl, arith, eq-eqb}
use Rattle.std.proofs.lemmas.Bool.{eqb-true, false≢true}
use Rattle.std.specs.Ordering.{nat_cmp}
use Rattle.std.specs.Cmp.{nat_cmp_total}
use Rattle.std.specs.FinMap as finite
use Rattle.vt_can.specs.declared.frames.frame.Frame.{Frame}
use Rattle.vt_can.specs.declared.transport.heard.Heard.{Heard}
use Rattle.vt_can.specs.declared.transport.sessions.Timed.{Timed}
use Rattle.vt_can.specs.transport.Messages.{Message}
use Rattle.vt_can.specs.frames.Frame.{source_of}
use Rattle.vt_can.specs.transport.Sessions.{ByAddress, is_overdue, alive, Expires}
use Rattle.vt_can.specs.transport.Protocols.{Protocol}
use Rattle.vt_can.specs.transport.Steps.{stepped}
use Rattle.vt_can.specs.transport.Receivers.{ReceiverState, AnswersWith, MakesStep, OthersStay, outcome}
use Rattle.vt_can.specs.transport.Bus.{handed_out, input_of, Serves}
use Rattle.vt_can.proofs.lemmas.transport.ByAddress.{get-removed, get-removed_other}

module _ {T : Type 0} where
  pub not_empty : (m : ByAddress T) (address : ℕ) (timed : Timed T) → finite.get m address ≡ Some timed → finite.len m ≡ 0 → ⊥
  not_empty m address timed found none =
      let empty = ap (λ (n : ByAddress T). finite.get n address) (finite.empty_of_len m none) ∙ finite.get-empty nat_cmp address in cc

module _ {T : Type 0} (timeout : ℕ) where
  overdue_none : (now : ℕ) (session : Option (Timed T)) → is_overdue timeout now session ≡ true → alive timeout now session ≡ None
  overdue_none now session is = ap (λ (b : Bool). cond b None session) is

  expired_at : (old new : ByAddress T) (now address q : ℕ) (session : T) (b : Bool) → eqb q address ≡ b → Expires timeout old new now address session
      → alive timeout now (finite.get new q) ≡ alive timeout now (finite.get old q)
  expired_at old new now address q session true is expired =
      subst (λ (k : ℕ). alive timeout now (finite.get new k) ≡ alive timeout now (finite.get old k)) (sym (eqb-true _ _ is))
      (ap (λ (m : ByAddress T). alive timeout now (finite.get m address)) expired.removed ∙ ap (alive timeout now) (get-removed old address)
      ∙ sym (overdue_none now _ expired.first.overdue))
  expired_at old new now address q session false is expired =
      ap (λ (m : ByAddress T). alive timeout now (finite.get m q)) expired.removed
      ∙ ap (alive timeout now) (get-removed_other old address q (λ same. false≢true (sym is ∙ eq-eqb _ _ same)))

  -- an expiry changes no session but overdue ones, which count as ended already
  pub expired_same : (old new : ByAddress T) (now address : ℕ) (session : T) → Expires timeout old new now address session
      → (q : ℕ) → alive timeout now (finite.get new q) ≡ alive timeout now (finite.get old q)
  expired_same old new now address session expired q = expired_at old new now address q session _ refl expired

  -- each expiry removes one session
  pub expired_fewer : (old new : ByAddress T) (now address : ℕ) (session : T) → Expires timeout old new now address session
      → finite.len new < finite.len old
  expired_fewer old new now address session expired =
      let there : is_some (finite.get old address) ≡ true = ap is_some expired.found in
      let fewer : finite.len new ≡ finite.len old - 1 =
      ap finite.len expired.removed ∙ finite.len-remove nat_cmp_total old address
      ∙ ap (λ (b : Bool). cond b (finite.len old - 1) (finite.len old)) there in
      let some : finite.len old ≡ 0 → ⊥ = not_empty old address _ expired.found in
      omega (arith, some)

none_chosen : (b : Bool) → ◌≡◌ {A = Option Message} None (cond b None None)
none_chosen true = refl
none_chosen false = refl

-- preparation, timeouts and the frame as one input of a run
module _ {S F R : Type 0} (protocol : Protocol S F R) where
  handed_out_is : (own_address from source : ℕ) (reply : Option R) (message : Option Message) (result : Heard) → AnswersWith protocol own_address from reply message result
      → handed_out source result ≡ cond (eqb from source) message None
  handed_out_is own_address from source None None result answers = ap (handed_out source) answers ∙ none_chosen (eqb from source)
  handed_out_is own_address from source None (Some message) result answers = absurd answers
  handed_out_is own_address from source (Some reply) None result answers = ap (handed_out source) answers ∙ none_chosen (eqb from source)
  handed_out_is own_address from source (Some reply) (Some message) result answers = ap (handed_out source) answers

  -- the sessions after all aborts, when none is overdue
  session_now : (old loop : ReceiverState S) (now q : ℕ) → alive protocol.timeout now (finite.get loop.sessions q) ≡ alive protocol.timeout now (finite.get old.sessions q)
      → is_overdue protocol.timeout now (finite.get loop.sessions q) ≡ false → finite.get loop.sessions q ≡ alive protocol.timeout now (finite.get old.sessions q)
  session_now old loop now q same none =
      sym (ap (λ (b : Bool). cond b None (finite.get loop.sessions q)) none) ∙ same

  served_by : (old loop new : ReceiverState S) (now : ℕ) (frame : Frame) (result : Heard) → loop.own_address ≡ old.own_address
      → ((q : ℕ) → finite.get loop.sessions q ≡ alive protocol.timeout now (finite.get old.sessions q))
      → MakesStep protocol loop new (source_of frame) (outcome protocol loop now frame) result → OthersStay loop new (source_of frame)
      → Serves protocol old.sessions new.sessions (input_of protocol old.own_address now frame) result
  served_by old loop new now frame result address_is alive_is makes_step others = record {
    session = makes_step.session
        ∙ ap₂ (λ (k : Option (Timed S)) (o : ℕ). (stepped protocol now k (protocol.frame_in o frame)).session) (alive_is (source_of frame)) address_is;
    others = λ other apart. others other apart ∙ alive_is other;
    message = λ source. handed_out_is _ _ source _ _ result makes_step.answers
        ∙ ap₂ (λ (k : Option (Timed S)) (o : ℕ). cond (eqb (source_of frame) source) (stepped protocol now k (protocol.frame_in o frame)).message None) (alive_is (source_of frame)) address_is;
  }

  -- the receiver before the input, prepared, after the aborts, and after the frame
  pub serves_as : (old prepared loop mid new : ReceiverState S) (now : ℕ) (frame : Frame) (result : Heard)
      → prepared.own_address ≡ old.own_address → prepared.sessions ≡ old.sessions → loop.own_address ≡ prepared.own_address
      → ((q : ℕ) → alive protocol.timeout now (finite.get loop.sessions q) ≡ alive protocol.timeout now (finite.get prepared.sessions q)) → mid ≡ loop
      → ((q : ℕ) → is_overdue protocol.timeout now (finite.get loop.sessions q) ≡ false)
      → MakesStep protocol mid new (source_of frame) (outcome protocol mid now frame) result → OthersStay mid new (source_of frame)
      → Serves protocol old.sessions new.sessions (input_of protocol old.own_address now frame) result
  serves_as old prepared loop mid new now frame result address_at_first sessions address_is same is none makes_step others =
      served_by old mid new now frame result
      (ap (λ (r : ReceiverState S). r.own_address) is ∙ address_is ∙ address_at_first)
      (λ q. ap (λ (r : ReceiverState S). finite.get r.sessions q) is
      ∙ session_now old loop now q (same q ∙ ap (λ (m : ByAddress S). alive protocol.timeout now (finite.get m q)) sessions) (none q))
      makes_step others
