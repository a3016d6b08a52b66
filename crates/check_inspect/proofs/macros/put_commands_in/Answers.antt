use Rattle.std.proofs.Common.{◌++◌, Option, ap, sym, ◌∙◌}
use Rattle.std.proofs.lemmas.List.{append-nil}
use Rattle.std.specs.Option.{option_to_list}
use Rattle.vt_stores.specs.Shapes.{shape_of}
use Rattle.vt_verify.proofs.lemmas.macros.MacroBytes.{rest_is_whole}
use Rattle.vt_verify.proofs.lemmas.macros.PieceByPiece.{put_piece, put_none}
use Rattle.vt_verify.proofs.lemmas.macros.CommandTests.{shorter}
use Rattle.check_inspect.specs.declared.finding.Finding.{Finding}
use Rattle.check_inspect.specs.Findings.{piece_findings}
use Rattle.check_inspect.proofs.macros.put_commands_in.Goals as goal

pub loop-piece-preserved-in_ok-push : goal.loop-piece-preserved-in_ok-push
loop-piece-preserved-in_ok-push c =
    let rest = c.loop-piece.rest.now in
    let split = c.in-Some.ensures.some in (
      shorter c.args.bytes.now rest c.in-Some.piece.now c.in-Some.next.now split c.loop-piece.invariant.0,
      rest_is_whole c.cut_is_one.ensures rest c.in-Some.piece.now c.in-Some.next.now split c.loop-piece.invariant.1,
      put_piece (piece_findings c.args.rule (shape_of c.args.objects.now)) c.cut_is_one.ensures c.args.id c.args.bytes.now rest c.loop-piece.invariant.1 _
          c.loop-piece.findings.items c.push.new.self.items c.in-Some.piece.now c.in-Some.next.now split c.loop-piece.invariant.0 c.loop-piece.invariant.2
          (c.in_ok-push.ensures.items
          ∙ ap (λ l. c.loop-piece.findings.items ++ l) (ap (λ (o : Option Finding). option_to_list o) (sym c.in-Some-fault_of.is) ∙ c.fault_of.ensures)),
    )

pub loop-piece-preserved : goal.loop-piece-preserved
loop-piece-preserved c =
    let rest = c.loop-piece.rest.now in
    let split = c.in-Some.ensures.some in (
      shorter c.args.bytes.now rest c.in-Some.piece.now c.in-Some.next.now split c.loop-piece.invariant.0,
      rest_is_whole c.cut_is_one.ensures rest c.in-Some.piece.now c.in-Some.next.now split c.loop-piece.invariant.1,
      put_piece (piece_findings c.args.rule (shape_of c.args.objects.now)) c.cut_is_one.ensures c.args.id c.args.bytes.now rest c.loop-piece.invariant.1 _
          c.loop-piece.findings.items c.loop-piece.findings.items c.in-Some.piece.now c.in-Some.next.now split c.loop-piece.invariant.0 c.loop-piece.invariant.2
          (sym (append-nil c.loop-piece.findings.items)
          ∙ ap (λ l. c.loop-piece.findings.items ++ l) (ap (λ (o : Option Finding). option_to_list o) (sym c.in_default-fault_of.is) ∙ c.fault_of.ensures)),
    )

pub returns : goal.returns
returns c =
    put_none (piece_findings c.args.rule (shape_of c.args.objects.now)) c.cut_is_one.ensures c.args.id c.args.bytes.now c.loop-piece.rest.now c.loop-piece.invariant.1 _
    c.loop-piece.findings.items c.in_default.ensures.none c.loop-piece.invariant.2
