-- Overdue sessions end one after the other.
use Rattle.std.proofs.Common.{◌≡◌, ◌≢◌, ℕ, ◌+◌, ◌≤◌, Bool, cond, List, [], ◌∷◌, ◌++◌, map, None, refl, sym, ap, ◌∙◌, append_assoc, append-nil, arith}
use Rattle.std.specs.FinMap as finite
use Rattle.vt_can.specs.declared.frames.frame.Frame.{Frame}
use Rattle.vt_can.specs.transport.Sessions.{ByAddress, AreOfAddresses, Expires, NoneExpires, alive, each_below, each_overdue, is_overdue}
use Rattle.vt_can.proofs.lemmas.transport.Overdue.{session_removed, first_expires}
use Rattle.vt_node.specs.AddressFunctions.{with_at}
use Rattle.vt_node.specs.Nodes.{NodeState, HasExpired}
use Rattle.vt_server.specs.Outputs.{outputs_of}
use Rattle.vt_server.specs.state.AddressViews.{Act, AddressOutcome, with_place}
use Rattle.vt_server.specs.state.AddressStates.{AddressState}
use Rattle.vt_server.specs.States.{state_of}
use Rattle.vt_server.specs.Terminals.{State, ToOne, part, put, to_address, after_act, after_acts, sent_by_act, sent_by_acts}
use Rattle.vt_server.specs.declared.output.Output.{Output}
use Rattle.vt_server.specs.declared.output.Output.TheVariants as declared
use Rattle.vt_server.specs.declared.terminal.Terminal.{Terminal}
use Rattle.vt_server.proofs.lemmas.frame.FrameEffect.{outputs-append}
use Rattle.vt_server.proofs.lemmas.timeouts.SessionLanes.{Lane, abort_of, due}
use Rattle.vt_server.proofs.lemmas.acts.ComposedActs.{act-is, sent_by_one-is}
use Rattle.vt_server.proofs.lemmas.state.WritesByAddress.{put-place}
use Rattle.vt_node.proofs.ByAddress.{places-written}
use Rattle.vt_names.proofs.AddressesAfterClaim.{by_eq}

-- ---- one session expires

module _ {S : Type 0} {timeout : ℕ} {old new : ByAddress S} {now address : ℕ} {session : S} (expired : Expires timeout old new now address session) where
  gone : finite.get new address ≡ None
  gone = ap (λ (m : ByAddress S). finite.get m address) expired.removed ∙ (session_removed old address).gone

  others-stay : (q : ℕ) → q ≢ address → finite.get new q ≡ finite.get old q
  others-stay q ne = ap (λ (m : ByAddress S). finite.get m q) expired.removed ∙ (session_removed old address).others q ne

  -- The sessions that are not overdue are unchanged.
  alive-same : (q : ℕ) → alive timeout now (finite.get new q) ≡ alive timeout now (finite.get old q)
  alive-same q =
      by_eq q address
      (λ is. ap (λ r. alive timeout now (finite.get new r)) is ∙ ap (alive timeout now) gone
      ∙ sym (ap (λ b. cond b None (finite.get old address)) expired.first.overdue) ∙ ap (λ r. alive timeout now (finite.get old r)) (sym is))
      (λ ne. ap (alive timeout now) (others-stay q ne))

  pub one-less : finite.len new + 1 ≡ finite.len old
  one-less =
      ap (λ (m : ByAddress S). finite.len m + 1) expired.removed
      ∙ (session_removed old address).fewer (record { last = expired.last; session = session }) expired.found

-- ---- one session of a lane expires

due-is : {S : Type 0} (lane : Lane S) (t : Terminal) → due lane (state_of t) ≡ each_overdue lane.timeout t.time (lane.sessions t.node) lane.act
due-is lane t = ap (λ (f : ℕ → Bool). each_below f lane.act 256) (λ i address. is_overdue lane.timeout t.time (lane.found t address i))

-- One step of the loop: from the current node to the next.
module _ {S : Type 0} (lane : Lane S) (now : Terminal) (node : NodeState) (rest : node ≡ lane.with_sessions (lane.sessions node) now.node) (frame : Frame)
    (expired : HasExpired lane.timeout (lane.abort now.node.claims.own) (lane.sessions now.node) (lane.sessions node) now.time frame) where
  abbrev current : State
  current = state_of now

  abbrev next : State
  next = state_of (record now { node = node })

  abbrev address : ℕ
  address = expired.address

  stays : (b : ℕ) → lane.with_session (finite.get (lane.sessions now.node) b) (current.places b) ≡ current.places b
  stays b =
      ap (λ (t : State). t.places b)
      (sym (lane.placed now (lane.sessions now.node)) ∙ ap (λ (n : NodeState). state_of (record now { node = n })) (lane.same now.node))

  next-is : next ≡ record current { places = with_at address (lane.with_session None (current.places address)) current.places }
  next-is =
      ap (λ (n : NodeState). state_of (record now { node = n })) rest ∙ lane.placed now (lane.sessions node)
      ∙ ap (λ (places : ℕ → AddressState). record current { places = places })
      (places-written address current.places (λ b. lane.with_session (finite.get (lane.sessions node) b) (current.places b)) (lane.with_session None (current.places address))
      (ap (λ session. lane.with_session session (current.places address)) (gone expired.expired))
      (λ b ne. ap (λ session. lane.with_session session (current.places b)) (others-stay expired.expired b ne) ∙ stays b))

  after-is : after_act current address lane.act ≡ next
  after-is =
      act-is current address lane.act
      ∙ ap (λ (o : AddressOutcome). put address o current) (lane.ends current.now address (part address current))
      ∙ put-place address current (with_place (part address current) (lane.with_session None (current.places address)) (abort_of lane.abort current.claims.own address (lane.session (current.places address)))) refl
      ∙ sym next-is

  sent-is : outputs_of (sent_by_act current address lane.act) ≡ declared.Frame frame ∷ []
  sent-is =
      ap outputs_of (sent_by_one-is current address lane.act ∙ ap (to_address address) (lane.ends current.now address (part address current)))
      ∙ ap (λ session. outputs_of (map (ToOne address) (abort_of lane.abort current.claims.own address session) ++ [])) (lane.found now address ∙ expired.expired.found)
      ∙ ap (λ (f : Frame). declared.Frame f ∷ []) (sym expired.abort_is)

  due-next : due lane current ≡ (address, lane.act) ∷ due lane next
  due-next =
      due-is lane now
      ∙ (first_expires S Act).some lane.timeout (lane.sessions now.node) (lane.sessions node) now.time address expired.session lane.act expired.expired
      ∙ ap (λ acts. (address, lane.act) ∷ acts) (sym (due-is lane (record now { node = node })))

  state-next : after_acts next (due lane next) ≡ after_acts current (due lane current)
  state-next = sym (ap (after_acts current) due-next ∙ ap (λ (t : State). after_acts t (due lane next)) after-is)

  sent-next : (out : List Output)
      → (out ++ declared.Frame frame ∷ []) ++ outputs_of (sent_by_acts next (due lane next)) ≡ out ++ outputs_of (sent_by_acts current (due lane current))
  sent-next out =
      append_assoc out (declared.Frame frame ∷ []) (outputs_of (sent_by_acts next (due lane next)))
      ∙ ap (λ l. out ++ l)
      (sym (ap (λ acts. outputs_of (sent_by_acts current acts)) due-next
      ∙ outputs-append (sent_by_act current address lane.act) (sent_by_acts (after_act current address lane.act) (due lane next))
      ∙ (λ i. sent-is i ++ outputs_of (sent_by_acts (after-is i) (due lane next)))))

-- ---- the sessions of a lane expire, one after the other

-- The acts still due lead to the same state and outputs as all acts due at first. There is capacity for their aborts and for
-- later outputs.
pub record IsExpiring {S : Type 0} (lane : Lane S) (spare : ℕ) (old now : Terminal) (old_out now_out : List Output) (free : ℕ) : Type 0 where
  pub rest : now ≡ record old { node = lane.with_sessions (lane.sessions now.node) old.node }
  pub state : after_acts (state_of now) (due lane (state_of now)) ≡ after_acts (state_of old) (due lane (state_of old))
  pub sent : now_out ++ outputs_of (sent_by_acts (state_of now) (due lane (state_of now))) ≡ old_out ++ outputs_of (sent_by_acts (state_of old) (due lane (state_of old)))
  pub timely : (address : ℕ) → alive lane.timeout old.time (finite.get (lane.sessions now.node) address) ≡ alive lane.timeout old.time (finite.get (lane.sessions old.node) address)
  pub enough : finite.len (lane.sessions now.node) ≤ 256 → finite.len (lane.sessions now.node) + spare ≤ free

module _ {S : Type 0} {lane : Lane S} {spare : ℕ} {old now : Terminal} {node : NodeState} {old_out out : List Output} {free : ℕ}
    (so_far : IsExpiring lane spare old now old_out out free) (rest : node ≡ lane.with_sessions (lane.sessions node) now.node) where
  pub goes-on : {frame : Frame} {new_out : List Output} {left : ℕ}
      → HasExpired lane.timeout (lane.abort now.node.claims.own) (lane.sessions now.node) (lane.sessions node) now.time frame
      → AreOfAddresses (lane.sessions now.node) → new_out ≡ out ++ declared.Frame frame ∷ [] → free ≤ left + 1
      → IsExpiring lane spare old (record now { node = node }) old_out new_out left
  goes-on {frame} {new_out} {left} expired addresses out-is one_taken =
      let time-is : now.time ≡ old.time = ap (λ (t : Terminal). t.time) so_far.rest in
      let less = one-less expired.expired in record {
        rest =
            ap (λ (n : NodeState). record now { node = n }) rest
            ∙ ap (λ (t : Terminal). record t { node = lane.with_sessions (lane.sessions node) t.node }) so_far.rest
            ∙ ap (λ (n : NodeState). record old { node = n }) (lane.twice (lane.sessions node) (lane.sessions now.node) old.node);
        state = state-next lane now node rest frame expired ∙ so_far.state;
        sent =
            ap (λ l. l ++ outputs_of (sent_by_acts (state_of (record now { node = node })) (due lane (state_of (record now { node = node }))))) out-is
            ∙ sent-next lane now node rest frame expired out
            ∙ so_far.sent;
        timely = λ address.
            ap (λ time. alive lane.timeout time (finite.get (lane.sessions node) address)) (sym time-is)
            ∙ alive-same expired.expired address
            ∙ ap (λ time. alive lane.timeout time (finite.get (lane.sessions now.node) address)) time-is
            ∙ so_far.timely address;
        enough = λ few. omega (arith, so_far.enough addresses.at_most);
      }

  module _ (none : NoneExpires lane.timeout (lane.sessions now.node) (lane.sessions node) now.time) where
    none-due : due lane (state_of now) ≡ []
    none-due = due-is lane now ∙ (first_expires S Act).none lane.timeout (lane.sessions now.node) (lane.sessions node) now.time lane.act none

    pub state-ends : state_of (record now { node = node }) ≡ after_acts (state_of old) (due lane (state_of old))
    state-ends =
        ap (λ (n : NodeState). state_of (record now { node = n })) (rest ∙ ap (λ m. lane.with_sessions m now.node) none.stay ∙ lane.same now.node)
        ∙ sym (ap (after_acts (state_of now)) none-due)
        ∙ so_far.state

    pub sent-ends : out ≡ old_out ++ outputs_of (sent_by_acts (state_of old) (due lane (state_of old)))
    sent-ends =
        sym (append-nil out)
        ∙ sym (ap (λ acts. out ++ outputs_of (sent_by_acts (state_of now) acts)) none-due)
        ∙ so_far.sent
