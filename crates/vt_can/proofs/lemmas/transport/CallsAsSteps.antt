-- A receiver's call that inserts or removes a session is a step on it.
use Rattle.std.proofs.Common.{◌≡◌, ℕ, max, Option, Some, None, ap, sym, subst, ◌∙◌}
use Rattle.std.specs.FinMap as finite
use Rattle.vt_can.specs.declared.transport.sessions.Timed.{Timed}
use Rattle.vt_can.specs.declared.transport.received.Received.{Received}
use Rattle.vt_can.specs.declared.transport.heard.Heard.{Heard}
use Rattle.vt_can.specs.declared.transport.heard.Heard.TheVariants as heard
use Rattle.vt_can.specs.transport.Sessions.{ByAddress}
use Rattle.vt_can.specs.transport.Protocols.{Protocol, SessionOutcome, silent, outcome_of}
use Rattle.vt_can.specs.transport.Receivers.{ReceiverState, MakesStep, AnswersWith}
use Rattle.vt_can.proofs.lemmas.transport.ByAddress.{get-put, get-removed}

module _ {S F R : Type 0} (protocol : Protocol S F R) where
  pub put_makes_step : (old new : ReceiverState S) (source : ℕ) (timed : Timed S) (m : ByAddress S) (out : SessionOutcome S R) (result : Heard)
      → new.own_address ≡ old.own_address → new.sessions ≡ finite.insert m source timed → out.session ≡ Some timed
      → AnswersWith protocol old.own_address source out.reply out.message result → MakesStep protocol old new source out result
  put_makes_step old new source timed m out result own_address is stays answers = record {
    own_address = own_address;
    session = ap (λ (n : ByAddress S). finite.get n source) is ∙ get-put m source timed ∙ sym stays;
    answers = answers;
  }

  pub removed_makes_step : (old new : ReceiverState S) (source : ℕ) (m : ByAddress S) (out : SessionOutcome S R) (result : Heard)
      → new.own_address ≡ old.own_address → new.sessions ≡ finite.remove m source → out.session ≡ None
      → AnswersWith protocol old.own_address source out.reply out.message result → MakesStep protocol old new source out result
  removed_makes_step old new source m out result own_address is none answers = record {
    own_address = own_address;
    session = ap (λ (n : ByAddress S). finite.get n source) is ∙ get-removed m source ∙ sym none;
    answers = answers;
  }

  -- the answer and the step of a call, carried over equalities

  pub replied : (own_address own_address' source : ℕ) (reply reply' : R) (result : Heard) → result ≡ heard.Reply (protocol.reply_frame own_address source reply) → own_address ≡ own_address'
      → reply ≡ reply' → AnswersWith protocol own_address' source (Some reply') None result
  replied own_address own_address' source reply reply' result is address_is reply_is =
      is ∙ ap (λ (k : ℕ). heard.Reply (protocol.reply_frame k source reply)) address_is
      ∙ ap (λ (r : R). heard.Reply (protocol.reply_frame own_address' source r)) reply_is

  pub makes_step_as : (old new : ReceiverState S) (source : ℕ) (out out' : SessionOutcome S R) (result : Heard) → out ≡ out' → MakesStep protocol old new source out result
      → MakesStep protocol old new source out' result
  makes_step_as old new source out out' result is makes_step = subst (λ (o : SessionOutcome S R). MakesStep protocol old new source o result) is makes_step

-- the step of a frame, from the removed session
module _ {S R : Type 0} (after : ℕ → Option (Timed S) → SessionOutcome S R) where
  pub session_removed : (old : ByAddress S) (now source last : ℕ) (m : ByAddress S) (removed : Option (Timed S)) (timed : Timed S)
      (received : Received S R) (out : SessionOutcome S R) → old ≡ m → removed ≡ finite.get m source → removed ≡ Some timed → timed.last ≡ last
      → ((now last : ℕ) → outcome_of (max now last) received ≡ after now (Some (record { last = last; session = timed.session })))
      → out ≡ outcome_of (max now last) received
      → out ≡ after now (finite.get old source)
  session_removed old now source last m removed timed received out was found is last_is made out_is =
      let same : record { last = last; session = timed.session } ≡ timed =
      ap (λ (l : ℕ). record { last = l; session = timed.session }) (sym last_is) in
      let same_session : Some (record { last = last; session = timed.session }) ≡ finite.get old source =
      ap Some same ∙ sym is ∙ found ∙ ap (λ (n : ByAddress S). finite.get n source) (sym was) in
      out_is ∙ made now last ∙ ap (after now) same_session

  pub none_there : (old : ByAddress S) (now source : ℕ) (m : ByAddress S) (removed : Option (Timed S)) → old ≡ m
      → removed ≡ finite.get m source → removed ≡ None → silent None ≡ after now None → silent None ≡ after now (finite.get old source)
  none_there old now source m removed was found is nothing =
      let absent : ◌≡◌ {A = Option (Timed S)} None (finite.get old source) =
      sym is ∙ found ∙ ap (λ (n : ByAddress S). finite.get n source) (sym was) in
      nothing ∙ ap (after now) absent
