use Rattle.std.proofs.Common.{sym, ap, subst, ◌∙◌}
use Rattle.vt_stores.specs.Stores.{ObjectMap}
use Rattle.vt_effects.specs.Soundness.{shape_in}
use Rattle.vt_macros.specs.QuietMacros.{KeepsLook}
use Rattle.vt_macros.proofs.QuietRuns.{all_known_quiet, command_keeps}
use Rattle.vt_machine.proofs.live.Live.keeps_look.Goals as goal

pub returns : goal.returns
returns g c quiet =
    let m = g.S.Store.contents c.self.inside.store in
    let keeps = sym c.keeps_look.ensures ∙ c.if-not-keeps_look.false in
    let raised = c.deref.ensures.0 ∙ c.events_of-raised.ensures in
    subst (λ (o : ObjectMap). KeepsLook o c.args.command.now) (ap (λ s. s.objects) c.self.view_is)
    (command_keeps m c.self.inside.index.quiet.items c.args.command.now c.deref.result.now c.self.invariant.0.indexed.quiet_are keeps raised
    (sym (all_known_quiet (shape_in m) c.self.inside.index c.deref.result.now c.self.invariant.0.indexed) ∙ sym c.are_quiet.ensures ∙ quiet))
