use Rattle.std.proofs.Common.{sym, ap, refl, ◌∙◌}
use Rattle.vt_effects.specs.Soundness.{shape_in}
use Rattle.vt_macros.specs.Machines.{joined_all, total_budget}
use Rattle.vt_macros.proofs.QuietRuns.{all_known_quiet, quiet_runs_keep_looks}
use Rattle.vt_machine.proofs.MarksKept.{marks_kept, ran_same}
use Rattle.vt_machine.proofs.StateBeforeAndAfter.{key_stays, events_small, has_acted, has_run, kind_stays}
use Rattle.vt_machine.proofs.live.Live.raise_all.Goals as goal

pub raise_all-requires-clause-small : goal.raise_all-requires-clause-small
raise_all-requires-clause-small g c =
    events_small c.self.inside.index (g.S.Store.contents c.self.inside.store) c.self.inside.levels c.args.raised.now c.self.invariant.0 c.requires

pub invariant_of-self : goal.invariant_of-self
invariant_of-self g c = (
  c.raise_all.ensures.can,
  kind_stays (g.S.Store.contents c.raise_all.new.store) (g.S.Store.contents c.self.inside.store) c.self.inside.working_set c.raise_all.ensures.shape ∙ c.self.invariant.1,
  marks_kept (g.S.Store.contents c.self.inside.store) (g.S.Store.contents c.raise_all.new.store) c.self.inside.working_set c.self.inside.are_marked c.are_quiet.result c.self.inside.all_marked
      c.self.inside.marks.items c.raise_all.ensures.shape c.self.invariant.0.working_set c.self.invariant.1
      (λ yes. ran_same (g.S.Store.contents c.self.inside.store) (g.S.Store.contents c.raise_all.new.store) (joined_all (shape_in (g.S.Store.contents c.self.inside.store)) c.args.raised.now)
      (total_budget (shape_in (g.S.Store.contents c.self.inside.store)) c.args.raised.now) c.raise_all.result
      (quiet_runs_keep_looks (g.S.Store.contents c.self.inside.store) c.self.inside.index.quiet.items c.args.raised.now c.self.invariant.0.indexed.quiet_are
      (sym (all_known_quiet (shape_in (g.S.Store.contents c.self.inside.store)) c.self.inside.index c.args.raised.now c.self.invariant.0.indexed) ∙ sym c.are_quiet.ensures ∙ yes)
      (total_budget (shape_in (g.S.Store.contents c.self.inside.store)) c.args.raised.now))
      (has_run c.self.inside.index (g.S.Store.contents c.self.inside.store) c.self.inside.audio _ _ c.raise_all.result (g.S.Store.contents c.raise_all.new.store) c.raise_all.new.audio c.raise_all.new.levels c.raise_all.ensures))
      c.self.invariant.2,
  key_stays (g.S.Store.contents c.self.inside.store) (g.S.Store.contents c.raise_all.new.store) c.self.inside.key c.raise_all.ensures.shape c.self.invariant.3,
)

pub returns : goal.returns
returns g c =
    has_acted c.self.inside.index c.args.self.now _ c.args.raised.now c.raise_all.result (g.S.Store.contents c.self.inside.store) (g.S.Store.contents c.raise_all.new.store)
    c.self.inside.audio c.raise_all.new.levels (ap (λ s. s.objects) c.self.view_is) refl (ap (λ s. s.key) c.self.view_is) (ap (λ s. s.input) c.self.view_is)
    (ap (λ s. s.audio) c.self.view_is) c.raise_all.ensures
