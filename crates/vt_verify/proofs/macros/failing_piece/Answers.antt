use Rattle.std.proofs.Common.{ℕ, List, sym, ap, ◌∙◌}
use Rattle.std.specs.List.{flat_map}
use Rattle.std.specs.Option.{option_map}
use Rattle.vt_verify.specs.Lists.{first_failing}
use Rattle.vt_stores.specs.Shapes.{Fixed, fixed, shape_of}
use Rattle.vt_stores.specs.Stores.{Objects}
use Rattle.vt_verify.specs.Macros.{Piece, named_macro, is_whole, pieces_of}
use Rattle.vt_verify.specs.Targets.{piece_passes}
use Rattle.vt_verify.proofs.lemmas.rules.FirstFailure.{over_objects, each_of_each, all_pass_at, told_fails, told_passes}
use Rattle.vt_verify.proofs.macros.failing_piece.Goals as goal

pub loop-id-init : goal.loop-id-init
loop-id-init c =
    let test = piece_passes c.args.test (shape_of c.args.objects.now) in
    let back = sym c.entries-id-items.ensures.all in (
      c.entries-id-items.ensures.all,
      sym (ap (first_failing is_whole)
          (over_objects named_macro c.args.objects.now ∙ ap (λ (objects : Objects). flat_map (λ e. named_macro (e.0, fixed e.1)) objects) back)) ∙ c.requires,
      ap (λ (ps : List Piece). option_map {U = ℕ × ℕ} (λ p. (p.id, p.at)) (first_failing test ps))
          (each_of_each pieces_of named_macro (shape_of c.args.objects.now)
          ∙ over_objects (λ (e : ℕ × Fixed). flat_map pieces_of (named_macro e)) c.args.objects.now
          ∙ ap (λ (objects : Objects). flat_map (λ e. flat_map pieces_of (named_macro (e.0, fixed e.1))) objects) back),
    )

pub returns-in-Some : goal.returns-in-Some
returns-in-Some c =
    sym (told_fails (piece_passes c.args.test (shape_of c.args.objects.now)) (λ (p : Piece). (p.id, p.at)) (λ e. flat_map pieces_of (named_macro (e.0, fixed e.1))) _
    c.entries-id-items.result.now c.loop-id.id-index c.loop-id-item.result c.in-Some.found c.failing_of.result c.loop-id-test.true c.loop-id-item.is c.loop-id.invariant.2
    c.failing_of.ensures c.in-Some.is)

pub loop-id-preserved : goal.loop-id-preserved
loop-id-preserved c = (
  c.loop-id.invariant.0,
  (all_pass_at is_whole (λ e. named_macro (e.0, fixed e.1)) c.entries-id-items.result.now c.loop-id.id-index c.loop-id-item.result c.loop-id-test.true c.loop-id-item.is
      c.loop-id.invariant.1).1,
  told_passes (piece_passes c.args.test (shape_of c.args.objects.now)) (λ (p : Piece). (p.id, p.at)) (λ e. flat_map pieces_of (named_macro (e.0, fixed e.1))) _
      c.entries-id-items.result.now c.loop-id.id-index c.loop-id-item.result c.failing_of.result c.loop-id-test.true c.loop-id-item.is c.loop-id.invariant.2
      c.failing_of.ensures c.in_default.is,
)
