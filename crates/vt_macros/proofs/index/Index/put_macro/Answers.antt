use Rattle.std.proofs.Common.{◌≡◌, ◌<◌, ℕ, List, map, length, set, refl, ap₂, subst, ◌∙◌, arith}
use Rattle.std.specs.Vec.{with_item}
use Rattle.vt_commands.specs.Commands.{command_at}
use Rattle.vt_verify.specs.Macros.{cut_or_none}
use Rattle.vt_verify.proofs.lemmas.macros.MacroBytes.{next_piece, no_piece, rest_is_whole}
use Rattle.vt_macros.specs.declared.index.Index.{Index}
use Rattle.vt_macros.specs.declared.index.Span.{Span}
use Rattle.vt_macros.proofs.IndexGrowth.{IsGrown, grown_first, grown_more, put_within, put_read}
use Rattle.vt_macros.proofs.index.Index.put_macro.Goals as goal

abbrev span_of : ℕ → ℕ → Span
span_of start end = record { start = start; end = end }

pub loop-piece-init : goal.loop-piece-init
loop-piece-init c = (c.requires.whole, grown_first c.args.self.now (map command_at (cut_or_none c.args.bytes.now)) c.requires.within)

pub loop-piece-preserved : goal.loop-piece-preserved
loop-piece-preserved c =
    let law = c.cut_is_one.ensures in
    let rest = c.loop-piece.rest.now in
    let piece = c.in-Some.piece.now in
    let next = c.in-Some.next.now in
    let all = map command_at (cut_or_none c.args.bytes.now) in
    let ensured = c.in_ok-put_piece.ensures in (
      rest_is_whole law rest piece next c.in-Some.ensures.some c.loop-piece.invariant.0,
      grown_more c.args.self.now c.loop-piece.self c.put_piece.new.self all (map command_at (cut_or_none next)) piece
          (subst (λ (pieces : List (List ℕ)). IsGrown c.args.self.now c.loop-piece.self all (map command_at pieces))
          (next_piece law rest piece next c.in-Some.ensures.some c.loop-piece.invariant.0) c.loop-piece.invariant.1)
          ensured.listings ensured.macros ensured.bytes ensured.pieces,
    )

pub returns : goal.returns
returns c =
    let first = c.args.self.now in
    let now = c.loop-piece.self in
    let all = map command_at (cut_or_none c.args.bytes.now) in
    let span : Span = record { start = c.len-start.result; end = c.len-end.result } in
    let next : Index = record { listings = now.listings; bytes = now.bytes; pieces = now.pieces; macros = with_item now.macros c.from.result span; quiet = now.quiet } in
    let grown =
    subst (λ (pieces : List (List ℕ)). IsGrown first now all (map command_at pieces))
    (no_piece c.cut_is_one.ensures c.loop-piece.rest.now c.in_default.ensures.none c.loop-piece.invariant.0) c.loop-piece.invariant.1 in
    let low : c.args.id < 256 = omega arith in
    let macros : next.macros.items ≡ set now.macros.items c.args.id (record { start = length first.pieces.items; end = length now.pieces.items }) =
    ap₂ (λ (i : ℕ) (s : Span). set now.macros.items i s) c.from.ensures
    (ap₂ (λ (start end : ℕ). span_of start end) (c.len-start.ensures ∙ first.pieces.ok.0) (c.len-end.ensures ∙ now.pieces.ok.0)) in record {
      listings = grown.listings_stay;
      within = put_within first now next c.args.id all low grown c.requires.within refl refl macros;
      commands = put_read first now next c.args.id all low grown c.requires.within refl refl macros;
    }
