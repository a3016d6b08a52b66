use Rattle.std.proofs.Common.{Option, map, sym, ap, ◌∙◌}
use Rattle.std.proofs.lemmas.List.{append-nil, map-append}
use Rattle.std.specs.List.{flat_map}
use Rattle.std.specs.Option.{option_to_list}
use Rattle.vt_kinds.specs.declared.kind.Kind.{Kind}
use Rattle.vt_commands.specs.declared.command.Command.{Command}
use Rattle.vt_commands.specs.Targets.{targets}
use Rattle.vt_verify.specs.Lists.{first_failing}
use Rattle.vt_stores.specs.Shapes.{shape_of}
use Rattle.vt_verify.specs.References.{passes}
use Rattle.vt_verify.specs.Targets.{of_target, target_references}
use Rattle.vt_verify.proofs.lemmas.rules.FirstFailure.{fails_in, passes_in}
use Rattle.vt_verify.proofs.targets.failing_in.Goals as goal

pub returns-in-Some : goal.returns-in-Some
returns-in-Some c =
    let test = passes c.args.test (shape_of c.args.objects.now) in
    let list = target_references (shape_of c.args.objects.now) c.args.id in
    let command = c.in_ok-command.command in
    sym (ap (λ (o : Option Command). first_failing test (flat_map list (option_to_list o))) (sym c.macro_command.ensures ∙ c.in_ok-command.was)
    ∙ ap (first_failing test)
    (append-nil (list command) ∙ ap (λ (k : Option Kind). map (of_target c.args.id) (targets k command)) (sym c.kind_for.ensures)
    ∙ ap (map (of_target c.args.id)) c.targets-first.ensures ∙ map-append (of_target c.args.id) _ _)
    ∙ fails_in test _ _ c.in-Some.reference (sym c.failing.ensures ∙ c.in-Some.is))

pub returns-in-None : goal.returns-in-None
returns-in-None c =
    let test = passes c.args.test (shape_of c.args.objects.now) in
    let list = target_references (shape_of c.args.objects.now) c.args.id in
    let command = c.in_ok-command.command in
    c.failing-in-None.ensures
    ∙ sym (ap (λ (o : Option Command). first_failing test (flat_map list (option_to_list o))) (sym c.macro_command.ensures ∙ c.in_ok-command.was)
    ∙ ap (first_failing test)
    (append-nil (list command) ∙ ap (λ (k : Option Kind). map (of_target c.args.id) (targets k command)) (sym c.kind_for.ensures)
    ∙ ap (map (of_target c.args.id)) c.targets-first.ensures ∙ map-append (of_target c.args.id) _ _)
    ∙ passes_in test _ _ (sym c.failing.ensures ∙ c.in-None.is))
