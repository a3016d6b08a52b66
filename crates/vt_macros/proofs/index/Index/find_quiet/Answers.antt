use Rattle.std.proofs.Common.{sym, subst, ◌∙◌}
use Rattle.vt_effects.specs.Soundness.{shape_in}
use Rattle.vt_macros.specs.Indexes.{IsIndexOf}
use Rattle.vt_macros.proofs.QuietRuns.{added_is}
use Rattle.vt_macros.proofs.index.Index.find_quiet.Goals as goal
use Rattle.vt_macros.proofs.index.Index.find_quiet.Goals.{then-is_quiet_macro, else-is_quiet_macro}

pub loop-id-preserved : goal.loop-id-preserved
loop-id-preserved g c =
    let shape = shape_in (g.S.Store.contents c.args.store.now) in
    elim c.if-is_quiet_macro.branch [
      | then-is_quiet_macro w ↦
          subst (IsIndexOf shape) (sym w.self-is)
          (added_is shape c.loop-id.self w.add_quiet.new.self _ c.loop-id.invariant w.add_quiet.ensures.rest w.add_quiet.ensures.known (sym c.is_quiet_macro.ensures ∙ w.if-is_quiet_macro.true))
      | else-is_quiet_macro w ↦ subst (IsIndexOf shape) (sym w.self-is) c.loop-id.invariant
    ]
