use Rattle.std.proofs.Common.{ℕ, List, Option, ◌-◌, length, sym, ap, ◌∙◌}
use Rattle.std.specs.Option.{option_map}
use Rattle.vt_verify.specs.Lists.{first_failing}
use Rattle.vt_stores.specs.Shapes.{shape_of}
use Rattle.vt_verify.specs.Macros.{Piece, with_offsets, cut_or_none}
use Rattle.vt_verify.specs.Targets.{piece_passes}
use Rattle.vt_verify.proofs.lemmas.macros.MacroBytes.{next_piece, no_piece, rest_is_whole}
use Rattle.vt_verify.proofs.lemmas.macros.CommandTests.{fails_here, passes_here, next_at, shorter}
use Rattle.vt_verify.proofs.macros.failing_in.Goals as goal

pub returns-then-not-passes : goal.returns-then-not-passes
returns-then-not-passes c =
    let rest = c.loop-piece.rest.now in
    let at = length c.args.bytes.now - length rest in
    let first = next_piece c.cut_is_one.ensures rest c.in-Some.piece.now c.in-Some.next.now c.in-Some.ensures.some c.loop-piece.invariant.1 in
    sym (ap (λ (found : Option Piece). option_map {U = ℕ × ℕ} (λ p. (p.id, p.at)) found)
    (c.loop-piece.invariant.2
    ∙ fails_here c.args.test (shape_of c.args.objects.now) c.args.id at rest c.in-Some.piece.now (cut_or_none c.in-Some.next.now) first (sym c.if-not-passes.ensures)))

pub loop-piece-preserved : goal.loop-piece-preserved
loop-piece-preserved c =
    let rest = c.loop-piece.rest.now in
    let at = length c.args.bytes.now - length rest in
    let test = piece_passes c.args.test (shape_of c.args.objects.now) in
    let split = c.in-Some.ensures.some in
    let first = next_piece c.cut_is_one.ensures rest c.in-Some.piece.now c.in-Some.next.now split c.loop-piece.invariant.1 in (
      shorter c.args.bytes.now rest c.in-Some.piece.now c.in-Some.next.now split c.loop-piece.invariant.0,
      rest_is_whole c.cut_is_one.ensures rest c.in-Some.piece.now c.in-Some.next.now split c.loop-piece.invariant.1,
      c.loop-piece.invariant.2
          ∙ passes_here c.args.test (shape_of c.args.objects.now) c.args.id at rest c.in-Some.piece.now (cut_or_none c.in-Some.next.now) first (sym c.if-not-passes.ensures)
          ∙ ap (λ (k : ℕ). first_failing test (with_offsets c.args.id k (cut_or_none c.in-Some.next.now)))
          (next_at c.args.bytes.now rest c.in-Some.piece.now c.in-Some.next.now split c.loop-piece.invariant.0),
    )

pub returns : goal.returns
returns c =
    let test = piece_passes c.args.test (shape_of c.args.objects.now) in
    let rest = c.loop-piece.rest.now in
    sym (ap (λ (found : Option Piece). option_map {U = ℕ × ℕ} (λ p. (p.id, p.at)) found)
    (c.loop-piece.invariant.2
    ∙ ap (λ (pieces : List (List ℕ)). first_failing test (with_offsets c.args.id (length c.args.bytes.now - length rest) pieces))
    (no_piece c.cut_is_one.ensures rest c.in_default.ensures.none c.loop-piece.invariant.1)))
