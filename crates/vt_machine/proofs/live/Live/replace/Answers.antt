use Rattle.std.proofs.Common.{◌≡◌, map, sym, ap, subst, ◌∙◌}
use Rattle.vt_stores.specs.Stores.{Objects, ObjectMap, seen_entry, map_of}
use Rattle.vt_verify.specs.Updates.{updated}
use Rattle.vt_effects.specs.Soundness.{shape_in}
use Rattle.vt_macros.specs.NestedRuns.{CanRun}
use Rattle.vt_machine.specs.Replacements.{AreReplacements, with_objects_put}
use Rattle.vt_machine.specs.SetStates.{SetState, renewed}
use Rattle.vt_machine.proofs.StateBeforeAndAfter.{key_stays, kind_stays}
use Rattle.vt_machine.proofs.MarksKept.{marks_cleared}
use Rattle.vt_machine.proofs.ReplacedObjects.{same_replacements, put_runs, put_shape, updated_map, renewed_is}
use Rattle.vt_machine.proofs.live.Live.replace.Goals as goal

pub put_all-requires : goal.put_all-requires
put_all-requires g c = same_replacements _ _ _ _ (ap (λ (s : SetState). s.objects) c.self.view_is) c.replacement.view_is c.requires

pub invariant_of-self : goal.invariant_of-self
invariant_of-self g c =
    let m = g.S.Store.contents c.self.inside.store in
    let n = g.S.Store.contents c.put_all.new.store in
    let entries = map seen_entry c.replacement.inside.entries.items in
    let fits : AreReplacements m entries =
    same_replacements m c.args.self.now.objects entries c.args.replacement (ap (λ (s : SetState). s.objects) c.self.view_is) c.replacement.view_is c.requires in
    let is : n ≡ with_objects_put m entries = c.put_all.ensures in
    let shape : shape_in n ≡ shape_in m = ap shape_in is ∙ put_shape m entries fits in (
      subst (λ (o : ObjectMap). CanRun c.self.inside.index o c.self.inside.levels) (sym is) (put_runs m entries c.self.inside.index c.self.inside.levels fits c.self.invariant.0),
      kind_stays n m c.self.inside.working_set shape ∙ c.self.invariant.1,
      marks_cleared m n c.self.inside.are_marked c.self.inside.all_marked c.self.inside.marks.items shape c.self.invariant.2,
      key_stays m n c.self.inside.key shape c.self.invariant.3,
    )

pub returns : goal.returns
returns g c =
    let m = g.S.Store.contents c.self.inside.store in
    let n = g.S.Store.contents c.put_all.new.store in
    let entries = map seen_entry c.replacement.inside.entries.items in
    let fits : AreReplacements m entries =
    same_replacements m c.args.self.now.objects entries c.args.replacement (ap (λ (s : SetState). s.objects) c.self.view_is) c.replacement.view_is c.requires in
    let is : n ≡ with_objects_put m entries = c.put_all.ensures in
    let state : SetState = record { objects = m; key = c.self.inside.key; input = c.self.inside.input; audio = c.self.inside.audio } in
    renewed_is state n c.kept_input-self-inside.result (ap shape_in is ∙ put_shape m entries fits) c.self.invariant.3 c.kept_input-self-inside.ensures
    ∙ ap (λ (s : SetState). renewed s n) c.self.view_is
    ∙ ap (renewed c.args.self.now)
    (is ∙ sym (updated_map m entries) ∙ ap (λ (o : ObjectMap). map_of (updated o entries)) (ap (λ (s : SetState). s.objects) c.self.view_is)
    ∙ ap (λ (es : Objects). map_of (updated c.args.self.now.objects es)) c.replacement.view_is)
