use Rattle.std.proofs.Common.{List, sym, ap, ◌∙◌}
use Rattle.std.proofs.lemmas.Grind.{flat_map-append}
use Rattle.std.specs.List.{flat_map}
use Rattle.std.specs.Option.{option_to_list}
use Rattle.vt_commands.specs.declared.command.Command.{Command}
use Rattle.vt_verify.specs.Lists.{first_failing}
use Rattle.vt_stores.specs.Shapes.{shape_of}
use Rattle.vt_verify.specs.References.{passes}
use Rattle.vt_verify.specs.Macros.{macro_command, commands_of}
use Rattle.vt_verify.specs.Targets.{target_references}
use Rattle.vt_verify.proofs.lemmas.rules.FirstFailure.{fails_in, passes_in}
use Rattle.vt_verify.proofs.lemmas.macros.MacroBytes.{next_command, no_command, rest_is_whole}
use Rattle.vt_verify.proofs.targets.failing_command.Goals as goal

pub returns-in-Some-failing_in : goal.returns-in-Some-failing_in
returns-in-Some-failing_in c =
    let test = passes c.args.test (shape_of c.args.objects.now) in
    let list = target_references (shape_of c.args.objects.now) c.args.id in
    let next = next_command c.cut_is_one.ensures c.loop-piece.rest.now c.in-Some.piece.now c.in-Some.next.now c.in-Some.ensures.some c.loop-piece.invariant.0 in
    sym (c.loop-piece.invariant.1
    ∙ ap (λ (cs : List Command). first_failing test (flat_map list cs)) next
    ∙ ap (first_failing test) (flat_map-append list (option_to_list (macro_command c.in-Some.piece.now)) (commands_of c.in-Some.next.now))
    ∙ fails_in test _ _ c.in-Some-failing_in.reference (sym c.failing_in.ensures ∙ c.in-Some-failing_in.is))

pub loop-piece-preserved : goal.loop-piece-preserved
loop-piece-preserved c =
    let test = passes c.args.test (shape_of c.args.objects.now) in
    let list = target_references (shape_of c.args.objects.now) c.args.id in
    let next = next_command c.cut_is_one.ensures c.loop-piece.rest.now c.in-Some.piece.now c.in-Some.next.now c.in-Some.ensures.some c.loop-piece.invariant.0 in (
      rest_is_whole c.cut_is_one.ensures c.loop-piece.rest.now c.in-Some.piece.now c.in-Some.next.now c.in-Some.ensures.some c.loop-piece.invariant.0,
      c.loop-piece.invariant.1
          ∙ ap (λ (cs : List Command). first_failing test (flat_map list cs)) next
          ∙ ap (first_failing test) (flat_map-append list (option_to_list (macro_command c.in-Some.piece.now)) (commands_of c.in-Some.next.now))
          ∙ passes_in test _ _ (sym c.failing_in.ensures ∙ c.in_default-failing_in.is),
    )

pub returns : goal.returns
returns c =
    let test = passes c.args.test (shape_of c.args.objects.now) in
    let list = target_references (shape_of c.args.objects.now) c.args.id in
    sym (c.loop-piece.invariant.1
    ∙ ap (λ (cs : List Command). first_failing test (flat_map list cs))
    (no_command c.cut_is_one.ensures c.loop-piece.rest.now c.in_default.ensures.none c.loop-piece.invariant.0))
