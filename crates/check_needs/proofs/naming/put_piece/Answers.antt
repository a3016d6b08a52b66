use Rattle.std.proofs.Common.{◌≡◌, ℕ, ◌||◌, List, map, Option, Some, sym, ap, ◌∙◌}
use Rattle.std.specs.List.{flat_map}
use Rattle.std.specs.Option.{option_to_list}
use Rattle.vt_commands.specs.declared.command.Command.{Command}
use Rattle.vt_commands.specs.Targets.{targets}
use Rattle.vt_kinds.specs.declared.kind.Kind.{Kind}
use Rattle.vt_stores.specs.Shapes.{shape_of}
use Rattle.vt_verify.specs.Macros.{macro_command}
use Rattle.vt_verify.specs.Targets.{target_references}
use Rattle.check_needs.specs.Naming.{has, is_among}
use Rattle.check_needs.proofs.lemmas.NamedIds.{joined, ids_of_command}
use Rattle.check_needs.proofs.naming.put_piece.Goals as goal

pub returns-in-Some : goal.returns-in-Some
returns-in-Some c = λ parent other.
    let shape = shape_of c.args.objects.now in
    let first = option_to_list c.targets-first.result.0 in
    let second = option_to_list c.targets-first.result.1 in
    let read : macro_command c.args.piece.now ≡ Some c.in-Some.command = sym c.macro_command.ensures ∙ c.in-Some.is in
    let is = ap (λ (kind : Option Kind). targets kind c.in-Some.command) (sym c.kind_for.ensures) ∙ c.targets-first.ensures in
    c.put_target-in-Some.ensures other
    ∙ sym (ap (λ (found : Option Command). has c.args.set.now other || is_among other (map (λ r. r.id) (flat_map (target_references shape parent) (option_to_list found)))) read
    ∙ ap (λ (ids : List ℕ). has c.args.set.now other || is_among other ids) (ids_of_command shape parent c.in-Some.command first second is)
    ∙ joined (has c.args.set.now other) (has c.put_target.new.set other) other (map (λ t. t.id) first) (map (λ t. t.id) second) (c.put_target.ensures other))
