use Rattle.std.proofs.Common.{◌++◌, ap, sym, ◌∙◌}
use Rattle.vt_stores.specs.Shapes.{shape_of}
use Rattle.vt_verify.specs.Macros.{Piece, pieces_of}
use Rattle.vt_verify.proofs.lemmas.macros.MacroBytes.{rest_is_whole}
use Rattle.vt_verify.proofs.lemmas.macros.PieceByPiece.{put_piece, put_none}
use Rattle.vt_verify.proofs.lemmas.macros.CommandTests.{shorter}
use Rattle.check_inspect.specs.Lists.{all_failing}
use Rattle.check_inspect.specs.References.{passes_at, targets_at}
use Rattle.check_inspect.proofs.lemmas.Appends.{all_failing-flat_map}
use Rattle.check_inspect.proofs.targets.put_commands.Goals as goal

pub loop-piece-preserved : goal.loop-piece-preserved
loop-piece-preserved c =
    let shape = shape_of c.args.objects.now in
    let test = passes_at c.args.test shape in
    let rest = c.loop-piece.rest.now in
    let split = c.in-Some.ensures.some in (
      shorter c.args.bytes.now rest c.in-Some.piece.now c.in-Some.next.now split c.loop-piece.invariant.0,
      rest_is_whole c.cut_is_one.ensures rest c.in-Some.piece.now c.in-Some.next.now split c.loop-piece.invariant.1,
      put_piece (λ (p : Piece). all_failing test (targets_at shape p)) c.cut_is_one.ensures c.args.id c.args.bytes.now rest c.loop-piece.invariant.1 _
          c.loop-piece.found.items c.put_piece.new.found.items c.in-Some.piece.now c.in-Some.next.now split c.loop-piece.invariant.0 c.loop-piece.invariant.2
          c.in_ok-put_piece.ensures,
    )

pub returns : goal.returns
returns c =
    let shape = shape_of c.args.objects.now in
    let test = passes_at c.args.test shape in
    put_none (λ (p : Piece). all_failing test (targets_at shape p)) c.cut_is_one.ensures c.args.id c.args.bytes.now c.loop-piece.rest.now c.loop-piece.invariant.1 _
    c.loop-piece.found.items c.in_default.ensures.none c.loop-piece.invariant.2
    ∙ ap (λ l. c.args.found.now.items ++ l) (sym (all_failing-flat_map test (targets_at shape) (pieces_of (c.args.id, c.args.bytes.now))))
