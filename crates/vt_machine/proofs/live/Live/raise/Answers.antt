use Rattle.std.proofs.Common.{sym, ap, subst, ◌∙◌}
use Rattle.vt_stores.specs.Stores.{ObjectMap}
use Rattle.vt_verify.specs.Budgets.{budget}
use Rattle.vt_verify.specs.Triggers.{listing}
use Rattle.vt_macros.specs.AudioOfRuns.{audio_after}
use Rattle.vt_macros.specs.Machines.{event_commands}
use Rattle.vt_effects.specs.Soundness.{shape_in}
use Rattle.vt_machine.specs.SetStates.{HasRun, SetState}
use Rattle.vt_macros.proofs.QuietRuns.{listing_keeps, known_quiet_at}
use Rattle.vt_machine.proofs.MarksKept.{marks_kept, ran_same}
use Rattle.vt_machine.proofs.StateBeforeAndAfter.{key_stays, has_run, has_sounded, kind_stays}
use Rattle.vt_machine.proofs.live.Live.raise.Goals as goal

pub returns-clause-run : goal.returns-clause-run
returns-clause-run g c =
    let m = g.S.Store.contents c.self.inside.store in
    subst (λ (o : ObjectMap). HasRun o (event_commands (shape_in o) (listing c.args.id c.args.event)) (budget (shape_in o) c.args.id c.args.event) c.raise.result (g.S.Store.contents c.raise.new.store))
    (ap (λ s. s.objects) c.self.view_is)
    (has_run c.self.inside.index m c.self.inside.audio (event_commands (shape_in m) (listing c.args.id c.args.event)) (budget (shape_in m) c.args.id c.args.event) c.raise.result
    (g.S.Store.contents c.raise.new.store) c.raise.new.audio c.raise.new.levels c.raise.ensures)

pub returns-clause-audio : goal.returns-clause-audio
returns-clause-audio g c =
    let m = g.S.Store.contents c.self.inside.store in
    has_sounded c.self.inside.index m c.self.inside.audio (event_commands (shape_in m) (listing c.args.id c.args.event)) (budget (shape_in m) c.args.id c.args.event) c.raise.result
    (g.S.Store.contents c.raise.new.store) c.raise.new.audio c.raise.new.levels c.raise.ensures
    ∙ ap (λ (s : SetState). audio_after (budget (shape_in s.objects) c.args.id c.args.event) s.audio s.objects (event_commands (shape_in s.objects) (listing c.args.id c.args.event))) c.self.view_is

pub invariant_of-self : goal.invariant_of-self
invariant_of-self g c = (
  c.raise.ensures.can,
  kind_stays (g.S.Store.contents c.raise.new.store) (g.S.Store.contents c.self.inside.store) c.self.inside.working_set c.raise.ensures.shape ∙ c.self.invariant.1,
  marks_kept (g.S.Store.contents c.self.inside.store) (g.S.Store.contents c.raise.new.store) c.self.inside.working_set c.self.inside.are_marked c.is_quiet_at.result c.self.inside.all_marked
      c.self.inside.marks.items c.raise.ensures.shape c.self.invariant.0.working_set c.self.invariant.1
      (λ yes. ran_same (g.S.Store.contents c.self.inside.store) (g.S.Store.contents c.raise.new.store) (event_commands (shape_in (g.S.Store.contents c.self.inside.store)) (listing c.args.id c.args.event))
      (budget (shape_in (g.S.Store.contents c.self.inside.store)) c.args.id c.args.event) c.raise.result
      (listing_keeps (g.S.Store.contents c.self.inside.store) c.self.inside.index.quiet.items (listing c.args.id c.args.event) c.self.invariant.0.indexed.quiet_are
      (sym (known_quiet_at (shape_in (g.S.Store.contents c.self.inside.store)) c.self.inside.index (listing c.args.id c.args.event) c.self.invariant.0.indexed) ∙ sym c.is_quiet_at.ensures ∙ yes)
      (budget (shape_in (g.S.Store.contents c.self.inside.store)) c.args.id c.args.event))
      (has_run c.self.inside.index (g.S.Store.contents c.self.inside.store) c.self.inside.audio _ _ c.raise.result (g.S.Store.contents c.raise.new.store) c.raise.new.audio c.raise.new.levels c.raise.ensures))
      c.self.invariant.2,
  key_stays (g.S.Store.contents c.self.inside.store) (g.S.Store.contents c.raise.new.store) c.self.inside.key c.raise.ensures.shape c.self.invariant.3,
)
