use Rattle.std.proofs.Common.{ℕ, ◌||◌, List, map, sym, ap, ◌∙◌}
use Rattle.std.proofs.lemmas.Grind.{flat_map-append}
use Rattle.std.proofs.lemmas.List.{map-append}
use Rattle.std.specs.List.{flat_map}
use Rattle.std.specs.Option.{option_to_list}
use Rattle.vt_commands.specs.declared.command.Command.{Command}
use Rattle.vt_stores.specs.Shapes.{shape_of}
use Rattle.vt_verify.specs.declared.reference.Reference.{Reference}
use Rattle.vt_verify.specs.Macros.{macro_command, commands_of}
use Rattle.vt_verify.specs.Targets.{target_references}
use Rattle.vt_verify.proofs.lemmas.macros.MacroBytes.{next_command, no_command, rest_is_whole}
use Rattle.check_needs.specs.Naming.{has, is_among}
use Rattle.check_needs.proofs.lemmas.NamedIds.{joined, or_none}
use Rattle.check_needs.proofs.naming.put_pieces.Goals as goal

pub loop-piece-preserved : goal.loop-piece-preserved
loop-piece-preserved c =
    let rest = c.loop-piece.rest.now in
    let next = next_command c.cut_is_one.ensures c.loop-piece.rest.now c.in-Some.piece.now c.in-Some.next.now c.in-Some.ensures.some c.loop-piece.invariant.0 in (
      rest_is_whole c.cut_is_one.ensures c.loop-piece.rest.now c.in-Some.piece.now c.in-Some.next.now c.in-Some.ensures.some c.loop-piece.invariant.0,
      λ parent other.
          let list = target_references (shape_of c.args.objects.now) parent in
          let first = flat_map list (option_to_list (macro_command c.in-Some.piece.now)) in
          let last = flat_map list (commands_of c.in-Some.next.now) in
          c.loop-piece.invariant.1 parent other
          ∙ ap (λ (cs : List Command). has c.loop-piece.set other || is_among other (map (λ r. r.id) (flat_map list cs))) next
          ∙ ap (λ (rs : List Reference). has c.loop-piece.set other || is_among other (map (λ r. r.id) rs))
          (flat_map-append list (option_to_list (macro_command c.in-Some.piece.now)) (commands_of c.in-Some.next.now))
          ∙ ap (λ (ids : List ℕ). has c.loop-piece.set other || is_among other ids) (map-append (λ r. r.id) first last)
          ∙ joined (has c.loop-piece.set other) (has c.put_piece.new.set other) other (map (λ r. r.id) first) (map (λ r. r.id) last) (c.put_piece.ensures parent other),
    )

pub returns : goal.returns
returns c = λ parent other.
    let list = target_references (shape_of c.args.objects.now) parent in
    sym (c.loop-piece.invariant.1 parent other
    ∙ ap (λ (cs : List Command). has c.loop-piece.set other || is_among other (map (λ r. r.id) (flat_map list cs)))
    (no_command c.cut_is_one.ensures c.loop-piece.rest.now c.in_default.ensures.none c.loop-piece.invariant.0)
    ∙ or_none (has c.loop-piece.set other))
