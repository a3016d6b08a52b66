use Rattle.std.proofs.Common.{◌≡◌, ◌≤◌, ◌++◌, ℕ, max, List, Some, unwrap_or, sym, ap, ◌∙◌, append_assoc, arith}
use Rattle.vt_server.specs.frame.TimeoutActs.{at_time, tp_due, etp_due, sending_due, silences, after_tp_timeouts, after_etp_timeouts, after_timeouts, lapsed, sent_by_lapses}
use Rattle.vt_server.specs.Outputs.{outputs_of}
use Rattle.vt_server.specs.state.AddressStates.{watched}
use Rattle.vt_server.specs.States.{state_of}
use Rattle.vt_server.specs.Terminals.{State, Sent, after_acts, sent_by_acts}
use Rattle.vt_node.specs.Registries.{Watched}
use Rattle.vt_node.specs.Watches.{heard_of}
use Rattle.vt_server.specs.declared.output.Output.{Output}
use Rattle.vt_server.specs.declared.terminal.Terminal.{Terminal}
use Rattle.vt_server.proofs.lemmas.frame.FrameEffect.{outputs-append}
use Rattle.vt_server.proofs.terminal.Terminal.lapse.Goals as goal

-- the state at the frame line's time
begun : (t : Terminal) (now : ℕ) (registry : Watched) → t.time ≤ now → registry.sets ≡ t.registry.sets
    → ((address : ℕ) → heard_of registry.watch address ≡ Some (unwrap_or (heard_of t.registry.watch address) now))
    → state_of (record t { time = now; registry = registry }) ≡ at_time (state_of t) now
begun t now registry later sets heard =
    let s : State = state_of t in
    let latest : max t.time now ≡ now = omega arith in
    (λ i. record s { sets = sets i; now = now; places = λ address. record (s.places address) { heard = heard address i } })
    ∙ ap (λ n. record s { now = n; places = λ address. watched n (s.places address) }) (sym latest)

grouped : (out : List Output) (x y z : List Sent) → ((out ++ outputs_of x) ++ outputs_of y) ++ outputs_of z ≡ out ++ outputs_of (x ++ (y ++ z))
grouped out x y z =
    append_assoc (out ++ outputs_of x) (outputs_of y) (outputs_of z)
    ∙ append_assoc out (outputs_of x) (outputs_of y ++ outputs_of z)
    ∙ ap (λ l. out ++ l) (sym (outputs-append x (y ++ z) ∙ ap (λ l. outputs_of x ++ l) (outputs-append y z)))

-- the state after each group of timeouts in turn
module _ (s s0 s1 s2 s3 : State) (zeroth : s0 ≡ s) (first : s1 ≡ after_tp_timeouts s0) (second : s2 ≡ after_acts s1 (etp_due s1))
    (third : s3 ≡ after_acts s2 (sending_due s2)) where
  after_tp : s1 ≡ after_tp_timeouts s
  after_tp = first ∙ ap after_tp_timeouts zeroth

  after_etp : s2 ≡ after_etp_timeouts s
  after_etp = second ∙ ap (λ (t : State). after_acts t (etp_due t)) after_tp

  after_sending : s3 ≡ after_timeouts s
  after_sending = third ∙ ap (λ (t : State). after_acts t (sending_due t)) after_etp

  all : (s4 : State) → s4 ≡ after_acts s3 (silences s3) → s4 ≡ lapsed s
  unfolding lapsed
  all s4 last = last ∙ ap (λ (t : State). after_acts t (silences t)) after_sending

  all-sent : (out out1 out2 out3 : List Output) → out1 ≡ out ++ outputs_of (sent_by_acts s0 (tp_due s0))
      → out2 ≡ out1 ++ outputs_of (sent_by_acts s1 (etp_due s1)) → out3 ≡ out2 ++ outputs_of (sent_by_acts s2 (sending_due s2))
      → out3 ≡ out ++ outputs_of (sent_by_lapses s)
  unfolding sent_by_lapses
  all-sent out out1 out2 out3 e1 e2 e3 =
      let t : State = after_tp_timeouts s in
      let u : State = after_etp_timeouts s in
      e3
      ∙ (λ i. e2 i ++ outputs_of (sent_by_acts (after_etp i) (sending_due (after_etp i))))
      ∙ (λ i. (e1 i ++ outputs_of (sent_by_acts (after_tp i) (etp_due (after_tp i)))) ++ outputs_of (sent_by_acts u (sending_due u)))
      ∙ (λ i. ((out ++ outputs_of (sent_by_acts (zeroth i) (tp_due (zeroth i)))) ++ outputs_of (sent_by_acts t (etp_due t))) ++ outputs_of (sent_by_acts u (sending_due u)))
      ∙ grouped out (sent_by_acts s (tp_due s)) (sent_by_acts t (etp_due t)) (sent_by_acts u (sending_due u))

pub returns-clause-state : goal.returns-clause-state
returns-clause-state c =
    let old = c.args.self.now in
    all (at_time (state_of old) c.args.now) (state_of (record old { time = c.args.now; registry = c.begin.new.self }))
    (state_of c.expire_tp.new.self) (state_of c.expire_etp.new.self) (state_of c.expire_sending.new.self)
    (begun old c.args.now c.begin.new.self c.requires.later c.begin.ensures.sets c.begin.ensures.heard)
    c.expire_tp.ensures.state c.expire_etp.ensures.state c.expire_sending.ensures.state
    (state_of c.close_silent.new.self) c.close_silent.ensures.state

pub returns-clause-sent : goal.returns-clause-sent
returns-clause-sent c =
    let old = c.args.self.now in
    all-sent (at_time (state_of old) c.args.now) (state_of (record old { time = c.args.now; registry = c.begin.new.self }))
    (state_of c.expire_tp.new.self) (state_of c.expire_etp.new.self) (state_of c.expire_sending.new.self)
    (begun old c.args.now c.begin.new.self c.requires.later c.begin.ensures.sets c.begin.ensures.heard)
    c.expire_tp.ensures.state c.expire_etp.ensures.state c.expire_sending.ensures.state
    c.args.outputs.now.items c.expire_tp.new.outputs.items c.expire_etp.new.outputs.items c.expire_sending.new.outputs.items
    c.expire_tp.ensures.sent c.expire_etp.ensures.sent c.expire_sending.ensures.sent
