use Rattle.std.proofs.Common.{◌∙◌, ◌+◌, ap, subst, sym}
use Rattle.vt_stores.specs.Stores.{ObjectMap}
use Rattle.vt_macros.specs.QuietMacros.{KeepsLook}
use Rattle.vt_machine.specs.SetStates.{IsDone, audio_after_command}
use Rattle.vt_machine.proofs.MarksKept.{done_same, marks_kept, refused_same}
use Rattle.vt_machine.proofs.StateBeforeAndAfter.{key_stays, after_shape, done_audio, events_small, is_done, kind_stays, refused_audio}
use Rattle.vt_macros.proofs.StoreOfNestedRuns.{after_can}
use Rattle.vt_machine.proofs.live.Live.apply.Goals as goal

pub raise_all-steps-requires-clause-can : goal.raise_all-steps-requires-clause-can
raise_all-steps-requires-clause-can g c =
    after_can c.self.inside.index (g.S.Store.contents c.self.inside.store) c.self.inside.levels c.execute.new.levels c.args.command.now (g.S.Store.contents c.execute.new.store)
    c.self.invariant.0 c.execute.ensures.objects c.execute.ensures.levels

pub raise_all-steps-requires-clause-small : goal.raise_all-steps-requires-clause-small
raise_all-steps-requires-clause-small g c =
    events_small c.self.inside.index (g.S.Store.contents c.execute.new.store) c.execute.new.levels c.deref.result.now (raise_all-steps-requires-clause-can g c) c.deref.ensures.1

pub returns-in-Ok-clause-applied : goal.returns-in-Ok-clause-applied
returns-in-Ok-clause-applied g c =
    subst (λ (o : ObjectMap). IsDone o c.args.command.now (c.raise_all-steps.result + 1) (g.S.Store.contents c.raise_all-steps.new.store)) (ap (λ s. s.objects) c.self.view_is)
    (is_done c.self.inside.index (g.S.Store.contents c.self.inside.store) (g.S.Store.contents c.execute.new.store) (g.S.Store.contents c.raise_all-steps.new.store)
    c.note.new.self c.raise_all-steps.new.audio c.execute.new.levels c.raise_all-steps.new.levels c.args.command.now c.deref.result.now c.raise_all-steps.result (c.deref.ensures.0 ∙ c.events_of-raised.ensures)
    c.in-Ok.ensures.result c.execute.ensures.objects c.raise_all-steps.ensures)

pub returns-in-Ok-clause-audio : goal.returns-in-Ok-clause-audio
returns-in-Ok-clause-audio g c =
    done_audio c.self.inside.index (g.S.Store.contents c.self.inside.store) (g.S.Store.contents c.execute.new.store) (g.S.Store.contents c.raise_all-steps.new.store)
    c.self.inside.audio c.note.new.self c.raise_all-steps.new.audio c.raise_all-steps.new.levels c.args.command.now c.deref.result.now c.raise_all-steps.result
    c.note.ensures (c.deref.ensures.0 ∙ c.events_of-raised.ensures) c.in-Ok.ensures.result c.execute.ensures.objects c.raise_all-steps.ensures
    ∙ ap (audio_after_command c.args.command.now) c.self.view_is

pub returns-in-Err-clause-audio : goal.returns-in-Err-clause-audio
returns-in-Err-clause-audio g c =
    refused_audio (g.S.Store.contents c.self.inside.store) c.self.inside.audio c.args.command.now c.in-Err.bits c.in-Err.ensures.result
    ∙ ap (audio_after_command c.args.command.now) c.self.view_is

pub invariant_of-self : goal.invariant_of-self
invariant_of-self g c = (
  c.raise_all-steps.ensures.can,
  kind_stays (g.S.Store.contents c.raise_all-steps.new.store) (g.S.Store.contents c.self.inside.store) c.self.inside.working_set
      (c.raise_all-steps.ensures.shape ∙ after_shape (g.S.Store.contents c.self.inside.store) (g.S.Store.contents c.execute.new.store) c.args.command.now c.execute.ensures.objects)
      ∙ c.self.invariant.1,
  marks_kept (g.S.Store.contents c.self.inside.store) (g.S.Store.contents c.raise_all-steps.new.store) c.self.inside.working_set c.self.inside.are_marked c.keeps_look.result c.self.inside.all_marked
      c.self.inside.marks.items
      (c.raise_all-steps.ensures.shape ∙ after_shape (g.S.Store.contents c.self.inside.store) (g.S.Store.contents c.execute.new.store) c.args.command.now c.execute.ensures.objects)
      c.self.invariant.0.working_set c.self.invariant.1
      (λ yes. done_same (g.S.Store.contents c.self.inside.store) (g.S.Store.contents c.raise_all-steps.new.store) c.args.command.now (c.raise_all-steps.result + 1)
      (subst (λ (o : ObjectMap). KeepsLook o c.args.command.now) (sym (ap (λ s. s.objects) c.self.view_is)) (c.keeps_look.ensures yes)) (is_done c.self.inside.index (g.S.Store.contents c.self.inside.store) (g.S.Store.contents c.execute.new.store) (g.S.Store.contents c.raise_all-steps.new.store)
      c.note.new.self c.raise_all-steps.new.audio c.execute.new.levels c.raise_all-steps.new.levels c.args.command.now c.deref.result.now c.raise_all-steps.result (c.deref.ensures.0 ∙ c.events_of-raised.ensures)
      c.in-Ok.ensures.result c.execute.ensures.objects c.raise_all-steps.ensures))
      c.self.invariant.2,
  key_stays (g.S.Store.contents c.self.inside.store) (g.S.Store.contents c.raise_all-steps.new.store) c.self.inside.key
      (c.raise_all-steps.ensures.shape ∙ after_shape (g.S.Store.contents c.self.inside.store) (g.S.Store.contents c.execute.new.store) c.args.command.now c.execute.ensures.objects)
      c.self.invariant.3,
)

pub invariant_of-self-in-Err : goal.invariant_of-self-in-Err
invariant_of-self-in-Err g c =
    let m = g.S.Store.contents c.self.inside.store in
    let n = g.S.Store.contents c.execute.new.store in
    let shape = after_shape m n c.args.command.now c.execute.ensures.objects in (
      after_can c.self.inside.index m c.self.inside.levels c.execute.new.levels c.args.command.now n c.self.invariant.0 c.execute.ensures.objects c.execute.ensures.levels,
      kind_stays n m c.self.inside.working_set shape ∙ c.self.invariant.1,
      marks_kept m n c.self.inside.working_set c.self.inside.are_marked c.keeps_look.result c.self.inside.all_marked c.self.inside.marks.items shape c.self.invariant.0.working_set c.self.invariant.1
          (λ yes. refused_same m n c.args.command.now c.in-Err.bits c.execute.ensures.objects c.in-Err.ensures.result) c.self.invariant.2,
      key_stays m n c.self.inside.key shape c.self.invariant.3,
    )
