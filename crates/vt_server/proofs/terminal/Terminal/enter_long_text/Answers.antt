use Rattle.std.proofs.Common.{◌≡◌, ℕ, List, [], ◌∷◌, length, Option, Err, is_some, refl, sym, ap, subst, ◌∙◌}
use Rattle.std.specs.FinMap as finite
use Rattle.vt_can.specs.Assigned.{VT_TO_ECU}
use Rattle.vt_can.specs.lines.Actions as actions
use Rattle.vt_machine.specs.OperatorEntries.{text_message}
use Rattle.vt_machine.specs.SetStates.{SetState}
use Rattle.vt_transport.specs.Wire.{rts_frame}
use Rattle.vt_server.specs.operator.ActionContracts.{PerformsAt}
use Rattle.vt_node.specs.Nodes.{NodeState}
use Rattle.vt_server.specs.state.AddressStates.{SetPool, AddressState}
use Rattle.vt_server.specs.States.{state_of, places_by}
use Rattle.vt_server.specs.Terminals.{pool_of}
use Rattle.vt_server.specs.state.PoolTables.{content_of}
use Rattle.vt_node.specs.Watches.{heard_of}
use Rattle.vt_server.specs.declared.output.OperatorFault.{OperatorFault}
use Rattle.vt_server.specs.declared.output.Output.TheVariants as declared
use Rattle.vt_server.proofs.lemmas.operator.ActionStep.{shown-at, takes-none, takes-fault, takes-busy, takes-long, started-places}
use Rattle.vt_server.proofs.terminal.Terminal.enter_long_text.Goals as goal

pub returns-in_default-clause-takes : goal.returns-in_default-clause-takes
returns-in_default-clause-takes c =
    takes-none (state_of c.args.self.now) (actions.Text c.args.id c.args.text.now) (refl, refl) c.in_default.ensures [] _ refl

pub returns-in-Some-text_fault-clause-takes : goal.returns-in-Some-text_fault-clause-takes
returns-in-Some-text_fault-clause-takes c =
    let s = state_of c.args.self.now in
    let a = c.in-Some.address in
    takes-fault s a (shown-at (pool_of s) s.shown a c.in-Some.ensures) c.args.id c.args.text.now c.in-Some-text_fault.refusal c.in-Some-text_fault.ensures.fault
    (record s { places = places_by (content_of c.text_fault.new.self) c.args.self.now.node (heard_of c.args.self.now.registry.watch) })
    (ap (λ (k : ℕ → SetPool). record s { places = places_by k c.args.self.now.node (heard_of c.args.self.now.registry.watch) }) c.text_fault.ensures.same)
    [] _ (ap (λ (f : OperatorFault). declared.Refused f ∷ []) c.from.ensures)

pub text_message-message-requires : goal.text_message-message-requires
text_message-message-requires c =
    let s = state_of c.args.self.now in
    let there = shown-at (pool_of s) s.shown c.in-Some.address c.in-Some.ensures in
    c.in_default-text_fault.ensures.short (ap is_some there.pool)

pub returns-in-Ok-clause-takes : goal.returns-in-Ok-clause-takes
returns-in-Ok-clause-takes c =
    let s = state_of c.args.self.now in
    let a = c.in-Some.address in
    let node = c.args.self.now.node in
    let heard = heard_of c.args.self.now.registry.watch in
    let there = shown-at (pool_of s) s.shown a c.in-Some.ensures in
    let bytes : c.as_slice.result.now ≡ _ = c.as_slice.ensures.value ∙ c.text_message-message.ensures ∙ ap (λ (n : ℕ). text_message n c.args.text.now) c.from_raw.ensures in
    let pool = c.act-done.ensures.pool in
    takes-long s a there c.args.id c.args.text.now c.in_default-text_fault.ensures.fault c.requires.long c.in-Ok.ensures.ok.0
    c.act-done.result pool
    (subst (λ (o : Option SetState). PerformsAt o (actions.Text c.args.id c.args.text.now) c.act-done.result pool) (ap (λ (k : ℕ → SetPool). (k a).pool) c.text_fault.ensures.same) c.act-done.ensures.performs)
    (record s { claims = c.start.new.self.claims; places = places_by (content_of c.act-done.new.self) c.start.new.self heard })
    (ap (λ (n : NodeState). record s { claims = n.claims; places = places_by (content_of c.act-done.new.self) n heard })
    (c.in-Ok.ensures.ok.1 ∙ ap (λ (m : List ℕ). record node { sending = finite.insert node.sending a (record { last = s.now; session = record { pgn = VT_TO_ECU; bytes = m } }) }) bytes)
    ∙ ap (λ (p : ℕ → AddressState). record s { places = p })
    (started-places s (content_of c.text_fault.new.self) (content_of c.act-done.new.self) node heard (ap (λ (k : ℕ → SetPool). places_by k node heard) (sym c.text_fault.ensures.same)) a pool c.act-done.ensures.content
    (record { last = s.now; session = record { pgn = VT_TO_ECU; bytes = _ } })))
    c.in-Ok.request (c.in-Ok.ensures.ok.2 ∙ ap (λ (m : List ℕ). rts_frame s.claims.own a (length m) VT_TO_ECU) bytes)
    [] _ refl

pub returns-in-Err-Busy-clause-takes : goal.returns-in-Err-Busy-clause-takes
returns-in-Err-Busy-clause-takes c =
    let s = state_of c.args.self.now in
    let a = c.in-Some.address in
    let heard = heard_of c.args.self.now.registry.watch in
    takes-busy s a (shown-at (pool_of s) s.shown a c.in-Some.ensures) c.args.id c.args.text.now c.in_default-text_fault.ensures.fault c.requires.long
    (c.in-Err-Busy.ensures.busy.0 (λ i. Err (c.in-Err-Busy.field-0-is i)))
    (record s { claims = c.start.new.self.claims; places = places_by (content_of c.text_fault.new.self) c.start.new.self heard })
    (λ i. record s { claims = (c.in-Err-Busy.ensures.err i).claims; places = places_by (c.text_fault.ensures.same i) (c.in-Err-Busy.ensures.err i) heard })
    [] _ refl
