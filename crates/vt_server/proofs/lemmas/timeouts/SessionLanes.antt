-- The three kinds of sessions as lanes: how to find a session, its timeout, the act that ends it, and its abort.
use Rattle.std.proofs.Common.{◌≡◌, ℕ, List, Option, None, refl}
use Rattle.std.specs.FinMap as finite
use Rattle.std.specs.Option.{option_map, option_to_list}
use Rattle.vt_can.specs.Assigned.{TP_TIMEOUT, ETP_TIMEOUT, SENDER_TIMEOUT}
use Rattle.vt_can.specs.declared.frames.frame.Frame.{Frame}
use Rattle.vt_can.specs.declared.transport.sessions.Timed.{Timed}
use Rattle.vt_can.specs.transport.Messages.{Message}
use Rattle.vt_can.specs.transport.Sessions.{ByAddress, each_below, is_overdue}
use Rattle.vt_transport.specs.Protocol as tp
use Rattle.vt_transport.specs.Senders.{timeout_frame}
use Rattle.vt_transport.specs.SessionState as tp_session
use Rattle.vt_extended.specs.Protocol as etp
use Rattle.vt_extended.specs.SessionState as etp_session
use Rattle.vt_node.specs.Nodes.{NodeState, abort_by}
use Rattle.vt_server.specs.state.AddressViews.{Act, TpExpires, EtpExpires, SendingExpires, AddressView, outcome, with_place}
use Rattle.vt_server.specs.state.AddressStates.{AddressState}
use Rattle.vt_server.specs.States.{state_of}
use Rattle.vt_server.specs.Terminals.{State}
use Rattle.vt_server.specs.declared.terminal.Terminal.{Terminal}

-- the abort of a session, if there is one
abbrev pub abort_of : {S : Type 0} → (ℕ → ℕ → S → Frame) → ℕ → ℕ → Option (Timed S) → List Frame
abort_of abort own address session = option_to_list (option_map (λ timed. abort own address timed.session) session)

pub record Lane (S : Type 0) : Type 0 where
  pub sessions : NodeState → ByAddress S
  pub with_sessions : ByAddress S → NodeState → NodeState
  pub session : AddressState → Option (Timed S)
  pub with_session : Option (Timed S) → AddressState → AddressState
  pub timeout : ℕ
  pub act : Act
  pub abort : ℕ → ℕ → S → Frame
  -- laws of the members above
  pub found : (t : Terminal) (address : ℕ) → session ((state_of t).places address) ≡ finite.get (sessions t.node) address
  pub placed : (t : Terminal) (m : ByAddress S)
      → state_of (record t { node = with_sessions m t.node }) ≡ record (state_of t) { places = λ address. with_session (finite.get m address) ((state_of t).places address) }
  pub ends : (now address : ℕ) (p : AddressView)
      → outcome now address p act ≡ with_place p (with_session None p.place) (abort_of abort p.terminal address (session p.place))
  pub same : (node : NodeState) → with_sessions (sessions node) node ≡ node
  pub twice : (m n : ByAddress S) (node : NodeState) → with_sessions m (with_sessions n node) ≡ with_sessions m node

abbrev pub tp_lane : Lane tp_session.SessionState
tp_lane = record {
  sessions = λ node. node.tp;
  with_sessions = λ m node. record node { tp = m };
  session = λ place. place.tp;
  with_session = λ session place. record place { tp = session };
  timeout = TP_TIMEOUT;
  act = TpExpires;
  abort = abort_by tp.protocol;
  found = λ t address. refl;
  placed = λ t m. refl;
  ends = λ now address p. refl;
  same = λ node. refl;
  twice = λ m n node. refl;
}

abbrev pub etp_lane : Lane etp_session.SessionState
etp_lane = record {
  sessions = λ node. node.etp;
  with_sessions = λ m node. record node { etp = m };
  session = λ place. place.etp;
  with_session = λ session place. record place { etp = session };
  timeout = ETP_TIMEOUT;
  act = EtpExpires;
  abort = abort_by etp.protocol;
  found = λ t address. refl;
  placed = λ t m. refl;
  ends = λ now address p. refl;
  same = λ node. refl;
  twice = λ m n node. refl;
}

abbrev pub sending_lane : Lane Message
sending_lane = record {
  sessions = λ node. node.sending;
  with_sessions = λ m node. record node { sending = m };
  session = λ place. place.sending;
  with_session = λ session place. record place { sending = session };
  timeout = SENDER_TIMEOUT;
  act = SendingExpires;
  abort = timeout_frame;
  found = λ t address. refl;
  placed = λ t m. refl;
  ends = λ now address p. refl;
  same = λ node. refl;
  twice = λ m n node. refl;
}

-- the acts that end the overdue sessions of a lane
abbrev pub due : {S : Type 0} → Lane S → State → List (ℕ × Act)
due lane s = each_below (λ address. is_overdue lane.timeout s.now (lane.session (s.places address))) lane.act 256
