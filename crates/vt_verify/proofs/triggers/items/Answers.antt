use Rattle.std.proofs.Common.{◌≡◌, List, Some, None, refl, sym, ap, subst, ◌∙◌}
use Rattle.std.proofs.lemmas.List.{append-nil}
use Rattle.std.specs.Prelude.{IfOk}
use Rattle.std.specs.List.{flat_map}
use Rattle.vt_commands.specs.declared.command.Command.{Command}
use Rattle.vt_stores.specs.Shapes.{shape_of}
use Rattle.vt_verify.specs.Macros.{commands_of}
use Rattle.vt_verify.specs.TriggerGraphs.{command_items}
use Rattle.vt_verify.proofs.lemmas.graphs.EventGroups.{whole_bytes, commands_found}
use Rattle.vt_verify.proofs.triggers.items.Goals as goal

pub items_of-requires : goal.items_of-requires
items_of-requires c =
    whole_bytes (shape_of c.args.objects.now) c.args.id (Some c.in-Some.bytes.now) c.in-Some.bytes.now c.requires c.in-Some.ensures refl

pub returns-in-Some : goal.returns-in-Some
returns-in-Some c =
    subst (λ (cs : List Command). IfOk c.items_of.result (λ items. items.items ≡ flat_map (command_items c.args.events.now.keys) cs))
    (sym (append-nil (commands_of c.in-Some.bytes.now)) ∙ commands_found (shape_of c.args.objects.now) c.args.id (Some c.in-Some.bytes.now) c.in-Some.ensures)
    c.items_of.ensures

pub returns-in-None : goal.returns-in-None
returns-in-None c =
    c.new.ensures.items
    ∙ ap (flat_map (command_items c.args.events.now.keys)) (commands_found (shape_of c.args.objects.now) c.args.id None c.in-None.ensures)
