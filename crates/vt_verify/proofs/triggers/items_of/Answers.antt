use Rattle.std.proofs.Common.{List, ◌++◌, sym, ap, ◌∙◌}
use Rattle.std.proofs.lemmas.Grind.{flat_map-append}
use Rattle.std.proofs.lemmas.List.{append-nil}
use Rattle.std.specs.List.{flat_map}
use Rattle.std.specs.Option.{option_to_list}
use Rattle.vt_rank.specs.declared.graph.Item.{Item}
use Rattle.vt_commands.specs.declared.command.Command.{Command}
use Rattle.vt_verify.specs.Macros.{macro_command, commands_of}
use Rattle.vt_verify.specs.TriggerGraphs.{command_items}
use Rattle.vt_verify.proofs.lemmas.macros.MacroBytes.{next_command, no_command, rest_is_whole}
use Rattle.vt_verify.proofs.lemmas.graphs.EventGroups.{moved}
use Rattle.vt_verify.proofs.triggers.items_of.Goals as goal

pub loop-piece-preserved : goal.loop-piece-preserved
loop-piece-preserved c =
    let add = command_items c.args.events.now.keys in
    let next = next_command c.cut_is_one.ensures c.loop-piece.rest.now c.in-Some.piece.now c.in-Some.next.now c.in-Some.ensures.some c.loop-piece.invariant.0 in
    let first = option_to_list (macro_command c.in-Some.piece.now) in (
      rest_is_whole c.cut_is_one.ensures c.loop-piece.rest.now c.in-Some.piece.now c.in-Some.next.now c.in-Some.ensures.some c.loop-piece.invariant.0,
      ap (λ (made : List Item). made ++ flat_map add (commands_of c.in-Some.next.now)) c.in_ok-put_piece.ensures
          ∙ moved c.loop-piece.items.items (flat_map add first) (flat_map add (commands_of c.in-Some.next.now)) _
          (ap (λ (more : List Item). c.loop-piece.items.items ++ more)
          (sym (ap (flat_map add) next ∙ flat_map-append add first (commands_of c.in-Some.next.now)))
          ∙ c.loop-piece.invariant.1),
    )

pub returns : goal.returns
returns c =
    let add = command_items c.args.events.now.keys in
    sym (append-nil c.loop-piece.items.items)
    ∙ ap (λ (cs : List Command). c.loop-piece.items.items ++ flat_map add cs)
    (sym (no_command c.cut_is_one.ensures c.loop-piece.rest.now c.in_default.ensures.none c.loop-piece.invariant.0))
    ∙ c.loop-piece.invariant.1
