-- A run hands out the messages of each source.
use Rattle.std.proofs.Common.{◌≡◌, ℕ, Bool, true, false, cond, Option, None, List, [], ◌∷◌, ◌++◌, refl, sym, ap, ap₂, subst, ◌∙◌, eq-eqb}
use Rattle.std.proofs.lemmas.Bool.{eqb-true, false≢true}
use Rattle.std.specs.Option.{option_to_list}
use Rattle.std.specs.Ordering.{nat_cmp}
use Rattle.std.specs.FinMap as finite
use Rattle.vt_can.specs.declared.transport.sessions.Timed.{Timed}
use Rattle.vt_can.specs.declared.transport.heard.Heard.{Heard}
use Rattle.vt_can.specs.transport.Messages.{Message}
use Rattle.vt_can.specs.transport.Sessions.{ByAddress, alive}
use Rattle.vt_can.specs.transport.Protocols.{Protocol}
use Rattle.vt_can.specs.transport.Bus.{session_after_frame, message_of_frame, BusFrame, is_from, inputs_of, session_of, Serves, IsRun, RunsHandOutMessages}

module _ {S F R : Type 0} (protocol : Protocol S F R) where
  served_at : (old new : ByAddress S) (i : BusFrame F) (result : Heard) (source : ℕ) (inputs : List (BusFrame F)) (from : Bool) → is_from source i ≡ from
      → Serves protocol old new i result → finite.get old source ≡ session_of protocol source inputs
      → finite.get new source ≡ session_of protocol source (i ∷ inputs)
  served_at old new i result source inputs true from serves before =
      subst (λ (k : ℕ). finite.get new k ≡ session_after_frame protocol i.time (alive protocol.timeout i.time (finite.get old k)) i.frame) (eqb-true _ _ from) serves.session
      ∙ ap (λ (current : Option (Timed S)). session_after_frame protocol i.time (alive protocol.timeout i.time current) i.frame) before
      ∙ ap (λ (b : Bool). cond b (session_after_frame protocol i.time (alive protocol.timeout i.time (session_of protocol source inputs)) i.frame) (alive protocol.timeout i.time (session_of protocol source inputs))) (sym from)
  served_at old new i result source inputs false from serves before =
      serves.others source (λ same. false≢true (sym from ∙ eq-eqb _ _ (sym same)))
      ∙ ap (alive protocol.timeout i.time) before
      ∙ ap (λ (b : Bool). cond b (session_after_frame protocol i.time (alive protocol.timeout i.time (session_of protocol source inputs)) i.frame) (alive protocol.timeout i.time (session_of protocol source inputs))) (sym from)

  pub message_of : (old new : ByAddress S) (i : BusFrame F) (result : Heard) (source : ℕ) (inputs : List (BusFrame F)) (from : Bool) → is_from source i ≡ from
      → finite.get old source ≡ session_of protocol source inputs
      → ◌≡◌ {A = Option Message} (cond from (message_of_frame protocol i.time (alive protocol.timeout i.time (finite.get old i.source)) i.frame) None)
      (cond from (message_of_frame protocol i.time (alive protocol.timeout i.time (session_of protocol source inputs)) i.frame) None)
  message_of old new i result source inputs true from before =
      ap (λ (current : Option (Timed S)). message_of_frame protocol i.time (alive protocol.timeout i.time current) i.frame) (ap (finite.get old) (eqb-true _ _ from) ∙ before)
  message_of old new i result source inputs false from before = refl

  pub run_session : (sessions : ByAddress S) (run : List (BusFrame F × Heard)) (source : ℕ) → IsRun protocol sessions run
      → finite.get sessions source ≡ session_of protocol source (inputs_of run)
  run_session sessions [] source is = ap (λ (m : ByAddress S). finite.get m source) is ∙ finite.get-empty nat_cmp source
  run_session sessions (x ∷ run) source is =
      served_at is.0 sessions x.0 x.1 source (inputs_of run) _ refl is.2 (run_session is.0 run source is.1)

  pub run_messages : RunsHandOutMessages protocol
  run_messages sessions [] source is = refl
  run_messages sessions (x ∷ run) source is =
      ap₂ (λ (m : Option Message) (ms : List Message). option_to_list m ++ ms)
      (is.2.message source ∙ message_of is.0 sessions x.0 x.1 source (inputs_of run) _ refl (run_session is.0 run source is.1))
      (run_messages is.0 run source is.1)
