use Rattle.std.proofs.Common.{◌≡◌, [], ◌∷◌, Option, Some, true, false, length, ap, subst, refl, ◌∙◌, Bool, not}
use Rattle.std.specs.Prelude.{◌==◌, Result}
use Rattle.vt_can.specs.lines.Actions.{action_value}
use Rattle.vt_machine.specs.declared.operator.Acted.{Acted}
use Rattle.vt_machine.specs.declared.operator.OperatorRefusal.{OperatorRefusal}
use Rattle.vt_server.specs.operator.ActionContracts.{PerformsAt}
use Rattle.vt_node.specs.Messages.{message_to}
use Rattle.vt_server.specs.operator.ActionEffects.{filled}
use Rattle.vt_server.specs.state.AddressStates.{SetPool}
use Rattle.vt_server.specs.States.{state_of}
use Rattle.vt_server.specs.Terminals.{pool_of}
use Rattle.vt_server.specs.state.PoolTables.{content_of}
use Rattle.vt_node.specs.Watches.{heard_of}
use Rattle.vt_server.specs.declared.output.OperatorFault.{OperatorFault}
use Rattle.vt_server.specs.declared.output.Output.TheVariants as declared
use Rattle.vt_can.specs.declared.frames.frame.Frame.{Frame}
use Rattle.vt_server.proofs.lemmas.operator.ActionStep.{shown-at, short-selects, takes-none, takes-act-refused, takes-act-done}
use Rattle.vt_server.proofs.lemmas.operator.ActionMessages.{one-frame, no-frame}
use Rattle.vt_server.proofs.lemmas.shown.SameScreen.{refused-pool, same-look, same-pool}
use Rattle.vt_effects.proofs.lemmas.objects.EntryChanges.{either_false}
use Rattle.vt_server.proofs.terminal.Terminal.act.Goals as goal

pub returns-in_default-clause-takes : goal.returns-in_default-clause-takes
returns-in_default-clause-takes c =
    let s = state_of c.args.self.now in let action = action_value c.args.action.now in
    takes-none s action (short-selects s action c.requires.short) c.in_default.ensures [] _ refl

pub returns-in-Some-Err-clause-takes : goal.returns-in-Some-Err-clause-takes
returns-in-Some-Err-clause-takes c =
    let s = state_of c.args.self.now in let action = action_value c.args.action.now in
    takes-act-refused s (content_of c.args.self.now.contents) (content_of c.act.new.self) c.args.self.now.node (heard_of c.args.self.now.registry.watch) refl action c.requires.short
    c.in-Some.address (shown-at (pool_of s) s.shown c.in-Some.address c.in-Some.ensures) c.act.result c.act.ensures
    c.in-Some-Err.refusal (c.in-Some-Err.is ∙ ap Some c.in-Some-Err.field-0-is) [] _
    (ap (λ (f : OperatorFault). declared.Refused f ∷ []) c.from.ensures)

pub returns-else-is_empty-clause-takes : goal.returns-else-is_empty-clause-takes
returns-else-is_empty-clause-takes c =
    let s = state_of c.args.self.now in let action = action_value c.args.action.now in
    let a = c.in-Some.address in
    let some : (length c.in-Some-Ok.acted.message.items == 0) ≡ false = cc in
    takes-act-done s (content_of c.args.self.now.contents) (content_of c.act.new.self) c.args.self.now.node (heard_of c.args.self.now.registry.watch) refl action c.requires.short
    a (shown-at (pool_of s) s.shown a c.in-Some.ensures) c.act.result c.act.ensures
    c.in-Some-Ok.acted (c.in-Some-Ok.is ∙ ap Some c.in-Some-Ok.field-0-is) (c.message_to.result ∷ [])
    (λ short.
    ap (λ (f : Frame). f ∷ []) (c.message_to.ensures ∙ (λ i. message_to (c.own.ensures i) a ((c.filled-bytes.ensures ∙ ap filled c.as_slice.ensures.value) i)))
    ∙ one-frame s.claims.own a c.in-Some-Ok.acted.message.items short some)
    [] _ refl

pub returns-then-is_empty-clause-takes : goal.returns-then-is_empty-clause-takes
returns-then-is_empty-clause-takes c =
    let s = state_of c.args.self.now in let action = action_value c.args.action.now in
    let a = c.in-Some.address in
    let none : (length c.in-Some-Ok.acted.message.items == 0) ≡ true = cc in
    takes-act-done s (content_of c.args.self.now.contents) (content_of c.act.new.self) c.args.self.now.node (heard_of c.args.self.now.registry.watch) refl action c.requires.short
    a (shown-at (pool_of s) s.shown a c.in-Some.ensures) c.act.result c.act.ensures
    c.in-Some-Ok.acted (c.in-Some-Ok.is ∙ ap Some c.in-Some-Ok.field-0-is) [] (λ short. no-frame s.claims.own a c.in-Some-Ok.acted.message.items none)
    [] [] refl

pub returns-in-Some-Err-clause-tells : goal.returns-in-Some-Err-clause-tells
returns-in-Some-Err-clause-tells c none =
    let t = c.args.self.now in
    let a = c.in-Some.address in
    let before : SetPool = content_of t.contents a in
    let action = action_value c.args.action.now in
    let acted = c.act.ensures in (
      none,
      same-pool t c.act.new.self a (record before { pool = acted.pool }) acted.content
          (refused-pool before.pool action c.in-Some-Err.refusal acted.pool
          (subst (λ (r : Option (Result Acted OperatorRefusal)). PerformsAt before.pool action r acted.pool) (c.in-Some-Err.is ∙ ap Some c.in-Some-Err.field-0-is) acted.performs)),
    )

is_true : (b : Bool) → not b ≡ false → b ≡ true
is_true true e = refl
is_true false e = absurd cc

pub returns-then-is_empty-clause-tells : goal.returns-then-is_empty-clause-tells
returns-then-is_empty-clause-tells c none =
    let t = c.args.self.now in
    let a = c.in-Some.address in
    let before : SetPool = content_of t.contents a in
    let acted = c.act.ensures in
    let redrew = either_false t.redraws (not c.action_keeps_look-is_kept.result) none in (
      redrew.0,
      same-look t c.act.new.self a (record before { pool = acted.pool }) acted.content
          (c.action_keeps_look-is_kept.ensures (is_true c.action_keeps_look-is_kept.result redrew.1) c.act.result acted.pool acted.performs),
    )

pub returns-else-is_empty-clause-tells : goal.returns-else-is_empty-clause-tells
returns-else-is_empty-clause-tells c none =
    let t = c.args.self.now in
    let a = c.in-Some.address in
    let before : SetPool = content_of t.contents a in
    let acted = c.act.ensures in
    let redrew = either_false t.redraws (not c.action_keeps_look-is_kept.result) none in (
      redrew.0,
      same-look t c.act.new.self a (record before { pool = acted.pool }) acted.content
          (c.action_keeps_look-is_kept.ensures (is_true c.action_keeps_look-is_kept.result redrew.1) c.act.result acted.pool acted.performs),
    )
