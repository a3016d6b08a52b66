use Rattle.std.proofs.Common.{◌++◌, ap, ap₂, sym, ◌∙◌, List, Option, map}
use Rattle.std.specs.Option.{option_to_list}
use Rattle.vt_kinds.specs.declared.kind.Kind.{Kind}
use Rattle.vt_commands.specs.declared.target.Target.{Target}
use Rattle.vt_commands.specs.Targets.{targets}
use Rattle.vt_stores.specs.Shapes.{shape_of}
use Rattle.vt_verify.specs.Macros.{Piece}
use Rattle.vt_verify.specs.Targets.{of_target}
use Rattle.check_inspect.specs.declared.finding.ReferenceAt.{ReferenceAt}
use Rattle.check_inspect.specs.declared.finding.Spot.{Spot}
use Rattle.check_inspect.specs.Lists.{all_failing}
use Rattle.check_inspect.specs.References.{at_spot, passes_at, targets_at}
use Rattle.check_inspect.proofs.lemmas.Appends.{two_parts, all_failing-append}
use Rattle.check_inspect.proofs.lemmas.Commands.{on_ok, piece_targets}
use Rattle.check_inspect.proofs.targets.put_piece.Goals as goal

pub returns : goal.returns
returns c =
    let shape = shape_of c.args.objects.now in
    let test = passes_at c.args.test shape in
    let piece : Piece = record { id = c.args.id; at = c.args.at; bytes = c.args.piece.now } in
    let first = option_to_list c.targets-first.result.0 in
    let second = option_to_list c.targets-first.result.1 in
    let made : Spot → List Target → List ReferenceAt = λ spot ts. all_failing test (map (λ t. at_spot spot (of_target c.args.id t)) ts) in
    on_ok c.put_target-2.result c.put_target-2.ensures
    (λ last. two_parts c.args.found.now.items (made c.command_spot.result first) (made c.command_spot-2.result second) (all_failing test (targets_at shape piece))
    c.put_target.new.found.items c.put_target-2.new.found.items c.in_ok-put_target.ensures last
    (ap (all_failing test)
    (piece_targets shape piece c.in-Some.command first second (sym c.in-Some.is ∙ c.macro_command.ensures)
    (ap (λ (k : Option Kind). targets k c.in-Some.command) (sym c.kind_for.ensures) ∙ c.targets-first.ensures))
    ∙ all_failing-append test _ _
    ∙ ap₂ (λ (s t : Spot). made s first ++ made t second) (sym c.command_spot.ensures) (sym c.command_spot-2.ensures)))
