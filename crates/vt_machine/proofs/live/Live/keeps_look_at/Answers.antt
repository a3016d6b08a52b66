use Rattle.std.proofs.Common.{[], ◌∷◌, sym, ap, subst, ◌∙◌}
use Rattle.vt_commands.specs.Events.{raise}
use Rattle.vt_stores.specs.Stores.{ObjectMap}
use Rattle.vt_effects.specs.Soundness.{shape_in}
use Rattle.vt_macros.specs.QuietMacros.{RunsKeepLook}
use Rattle.vt_macros.proofs.QuietRuns.{all_known_quiet, quiet_runs_keep_looks}
use Rattle.vt_machine.proofs.live.Live.keeps_look_at.Goals as goal

pub returns : goal.returns
returns g c quiet =
    let m = g.S.Store.contents c.self.inside.store in
    let raised = raise c.args.id c.args.event ∷ [] in
    subst (λ (o : ObjectMap). RunsKeepLook o raised) (ap (λ s. s.objects) c.self.view_is)
    (quiet_runs_keep_looks m c.self.inside.index.quiet.items raised c.self.invariant.0.indexed.quiet_are
    (sym (all_known_quiet (shape_in m) c.self.inside.index raised c.self.invariant.0.indexed) ∙ sym c.are_quiet.ensures ∙ quiet))
