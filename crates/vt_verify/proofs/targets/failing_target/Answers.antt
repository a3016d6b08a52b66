use Rattle.std.proofs.Common.{sym, ap, ◌∙◌}
use Rattle.std.specs.List.{flat_map}
use Rattle.vt_verify.specs.Lists.{first_failing}
use Rattle.vt_stores.specs.Shapes.{fixed, shape_of}
use Rattle.vt_stores.specs.Stores.{Objects}
use Rattle.vt_verify.specs.References.{passes}
use Rattle.vt_verify.specs.Macros.{named_macro, is_whole}
use Rattle.vt_verify.specs.Targets.{own_references}
use Rattle.vt_verify.proofs.lemmas.rules.FirstFailure.{over_objects, all_pass_at, fails_at, passes_at}
use Rattle.vt_verify.proofs.targets.failing_target.Goals as goal

pub loop-id-init : goal.loop-id-init
loop-id-init c =
    let test = passes c.args.test (shape_of c.args.objects.now) in
    let back = sym c.entries-id-items.ensures.all in (
      c.entries-id-items.ensures.all,
      sym (ap (first_failing is_whole)
          (over_objects named_macro c.args.objects.now ∙ ap (λ (objects : Objects). flat_map (λ e. named_macro (e.0, fixed e.1)) objects) back)) ∙ c.requires,
      ap (first_failing test)
          (over_objects (own_references (shape_of c.args.objects.now)) c.args.objects.now
          ∙ ap (λ (objects : Objects). flat_map (λ e. own_references (shape_of c.args.objects.now) (e.0, fixed e.1)) objects) back),
    )

pub returns-in-Some : goal.returns-in-Some
returns-in-Some c =
    sym (fails_at (passes c.args.test (shape_of c.args.objects.now)) (λ e. own_references (shape_of c.args.objects.now) (e.0, fixed e.1)) _
    c.entries-id-items.result.now c.loop-id.id-index c.loop-id-item.result c.in-Some.reference c.failing_of.result c.loop-id-test.true c.loop-id-item.is c.loop-id.invariant.2
    c.failing_of.ensures c.in-Some.is)

pub loop-id-preserved : goal.loop-id-preserved
loop-id-preserved c = (
  c.loop-id.invariant.0,
  (all_pass_at is_whole (λ e. named_macro (e.0, fixed e.1)) c.entries-id-items.result.now c.loop-id.id-index c.loop-id-item.result c.loop-id-test.true c.loop-id-item.is
      c.loop-id.invariant.1).1,
  passes_at (passes c.args.test (shape_of c.args.objects.now)) (λ e. own_references (shape_of c.args.objects.now) (e.0, fixed e.1)) _
      c.entries-id-items.result.now c.loop-id.id-index c.loop-id-item.result c.failing_of.result c.loop-id-test.true c.loop-id-item.is c.loop-id.invariant.2
      c.failing_of.ensures c.in_default.is,
)
