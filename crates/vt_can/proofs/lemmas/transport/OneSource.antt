-- The session and the messages of a source depend on its own frames and their times alone.
use Rattle.std.proofs.Common.{◌≡◌, ◌≤◌, ℕ, Bool, true, false, cond, Option, Some, None, List, [], ◌∷◌, ◌++◌, filter, ap, sym, ◌∙◌, refl, arith, lt-ltb}
use Rattle.std.proofs.lemmas.Bool.{ltb-true}
use Rattle.std.specs.Option.{option_to_list}
use Rattle.vt_can.specs.declared.transport.sessions.Timed.{Timed}
use Rattle.vt_can.specs.transport.Messages.{Message}
use Rattle.vt_can.specs.transport.Sessions.{alive, is_overdue}
use Rattle.vt_can.specs.transport.Protocols.{Protocol}
use Rattle.vt_can.specs.transport.Bus.{session_after_frame, message_of_frame, BusFrame, IsInOrder, is_from, session_of, message_at, messages_of, MessagesDependOnTheirSource}

-- an overdue session stays overdue
module _ {T : Type 0} (timeout : ℕ) where
  alive_at : (earlier now : ℕ) (timed : Timed T) (overdue : Bool) → is_overdue timeout earlier (Some timed) ≡ overdue → earlier ≤ now
      → alive timeout now (alive timeout earlier (Some timed)) ≡ alive timeout now (Some timed)
  alive_at earlier now timed false not_overdue after =
      ap (λ (b : Bool). alive timeout now (cond b None (Some timed))) not_overdue
  alive_at earlier now timed true overdue after =
      let late = ltb-true _ _ overdue in
      let still : is_overdue timeout now (Some timed) ≡ true = lt-ltb _ _ (omega arith) in
      ap (λ (b : Bool). alive timeout now (cond b None (Some timed))) overdue
      ∙ sym (ap (λ (b : Bool). cond b None (Some timed)) still)

  alive_again : (earlier now : ℕ) (current : Option (Timed T)) → earlier ≤ now → alive timeout now (alive timeout earlier current) ≡ alive timeout now current
  alive_again earlier now None after = refl
  alive_again earlier now (Some timed) after = alive_at earlier now timed _ refl after

module _ {F : Type 0} where
  in_order_later : (earlier now : ℕ) (inputs : List (BusFrame F)) → IsInOrder earlier inputs → earlier ≤ now → IsInOrder now inputs
  in_order_later earlier now [] order after = tt
  in_order_later earlier now (i ∷ inputs) order after = let first = order.0 in (omega arith, order.1)

  abbrev from_source : ℕ → List (BusFrame F) → List (BusFrame F)
  from_source source inputs = filter (is_from source) inputs

module _ {S F R : Type 0} (protocol : Protocol S F R) where
  -- one input: from the source, or from another

  from_source-same : (source : ℕ) (i : BusFrame F) (inputs : List (BusFrame F)) → is_from source i ≡ true → from_source source (i ∷ inputs) ≡ i ∷ from_source source inputs
  from_source-same source i inputs from = rw from

  from_source-other : (source : ℕ) (i : BusFrame F) (inputs : List (BusFrame F)) → is_from source i ≡ false → from_source source (i ∷ inputs) ≡ from_source source inputs
  from_source-other source i inputs from = rw from

  session_of-same : (source : ℕ) (i : BusFrame F) (inputs : List (BusFrame F)) → is_from source i ≡ true
      → session_of protocol source (i ∷ inputs) ≡ session_after_frame protocol i.time (alive protocol.timeout i.time (session_of protocol source inputs)) i.frame
  session_of-same source i inputs from = rw from

  session_of-other : (source : ℕ) (i : BusFrame F) (inputs : List (BusFrame F)) → is_from source i ≡ false
      → session_of protocol source (i ∷ inputs) ≡ alive protocol.timeout i.time (session_of protocol source inputs)
  session_of-other source i inputs from = rw from

  message_at-same : (source : ℕ) (i : BusFrame F) (inputs : List (BusFrame F)) → is_from source i ≡ true
      → message_at protocol source i inputs ≡ message_of_frame protocol i.time (alive protocol.timeout i.time (session_of protocol source inputs)) i.frame
  message_at-same source i inputs from = rw from

  message_at-other : (source : ℕ) (i : BusFrame F) (inputs : List (BusFrame F)) → is_from source i ≡ false → ◌≡◌ {A = Option Message} (message_at protocol source i inputs) None
  message_at-other source i inputs from = rw from

  -- all inputs

  same_with : (source now : ℕ) (i : BusFrame F) (inputs : List (BusFrame F)) (from : Bool) → is_from source i ≡ from → i.time ≤ now
      → alive protocol.timeout i.time (session_of protocol source inputs) ≡ alive protocol.timeout i.time (session_of protocol source (from_source source inputs))
      → alive protocol.timeout now (session_of protocol source inputs) ≡ alive protocol.timeout now (session_of protocol source (from_source source inputs))
      → alive protocol.timeout now (session_of protocol source (i ∷ inputs)) ≡ alive protocol.timeout now (session_of protocol source (from_source source (i ∷ inputs)))
  same_with source now i inputs true from after here later =
      ap (alive protocol.timeout now) (session_of-same source i inputs from
      ∙ ap (λ (current : Option (Timed S)). session_after_frame protocol i.time current i.frame) here
      ∙ sym (session_of-same source i (from_source source inputs) from)
      ∙ sym (ap (session_of protocol source) (from_source-same source i inputs from)))
  same_with source now i inputs false from after here later =
      ap (alive protocol.timeout now) (session_of-other source i inputs from)
      ∙ alive_again protocol.timeout i.time now (session_of protocol source inputs) after
      ∙ later
      ∙ sym (ap (λ (is : List (BusFrame F)). alive protocol.timeout now (session_of protocol source is)) (from_source-other source i inputs from))

  same_session : (source now : ℕ) (inputs : List (BusFrame F)) → IsInOrder now inputs
      → alive protocol.timeout now (session_of protocol source inputs) ≡ alive protocol.timeout now (session_of protocol source (from_source source inputs))
  same_session source now [] order = refl
  same_session source now (i ∷ inputs) order =
      same_with source now i inputs _ refl order.0 (same_session source i.time inputs order.1)
      (same_session source now inputs (in_order_later i.time now inputs order.1 order.0))

  messages_with : (source : ℕ) (i : BusFrame F) (inputs : List (BusFrame F)) (from : Bool) → is_from source i ≡ from
      → alive protocol.timeout i.time (session_of protocol source inputs) ≡ alive protocol.timeout i.time (session_of protocol source (from_source source inputs))
      → messages_of protocol source inputs ≡ messages_of protocol source (from_source source inputs)
      → messages_of protocol source (i ∷ inputs) ≡ messages_of protocol source (from_source source (i ∷ inputs))
  messages_with source i inputs true from here rest =
      ap (λ (m : Option Message). option_to_list m ++ messages_of protocol source inputs) (message_at-same source i inputs from
      ∙ ap (λ (current : Option (Timed S)). message_of_frame protocol i.time current i.frame) here
      ∙ sym (message_at-same source i (from_source source inputs) from))
      ∙ ap (λ (ms : List Message). option_to_list (message_at protocol source i (from_source source inputs)) ++ ms) rest
      ∙ sym (ap (messages_of protocol source) (from_source-same source i inputs from))
  messages_with source i inputs false from here rest =
      ap (λ (m : Option Message). option_to_list m ++ messages_of protocol source inputs) (message_at-other source i inputs from)
      ∙ rest
      ∙ sym (ap (messages_of protocol source) (from_source-other source i inputs from))

  pub same_messages : MessagesDependOnTheirSource protocol
  same_messages source now [] order = refl
  same_messages source now (i ∷ inputs) order =
      messages_with source i inputs _ refl (same_session source i.time inputs order.1) (same_messages source i.time inputs order.1)
