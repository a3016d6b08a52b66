use Rattle.vt_stores.specs.Shapes.{shape_of}
use Rattle.vt_verify.proofs.lemmas.macros.MacroBytes.{rest_is_whole}
use Rattle.vt_verify.proofs.lemmas.macros.CommandTests.{shorter}
use Rattle.vt_verify.proofs.lemmas.macros.PieceByPiece.{put_piece, put_none}
use Rattle.check_costs.specs.Shares.{piece_shares}
use Rattle.check_costs.proofs.macro_costs.put_shares.Goals as goal

pub loop-piece-preserved : goal.loop-piece-preserved
loop-piece-preserved c =
    let rest = c.loop-piece.rest.now in
    let split = c.in-Some.ensures.some in (
      shorter c.args.bytes.now rest c.in-Some.piece.now c.in-Some.next.now split c.loop-piece.invariant.0,
      rest_is_whole c.cut_is_one.ensures rest c.in-Some.piece.now c.in-Some.next.now split c.loop-piece.invariant.1,
      put_piece (piece_shares (shape_of c.args.pool.now.objects.now) c.args.hide.now) c.cut_is_one.ensures 0 c.args.bytes.now rest c.loop-piece.invariant.1 _
          c.loop-piece.shares.items c.put_piece.new.shares.items c.in-Some.piece.now c.in-Some.next.now split c.loop-piece.invariant.0 c.loop-piece.invariant.2
          c.in_ok-put_piece.ensures,
    )

pub returns : goal.returns
returns c =
    put_none (piece_shares (shape_of c.args.pool.now.objects.now) c.args.hide.now) c.cut_is_one.ensures 0 c.args.bytes.now c.loop-piece.rest.now c.loop-piece.invariant.1 _
    c.loop-piece.shares.items c.in_default.ensures.none c.loop-piece.invariant.2
