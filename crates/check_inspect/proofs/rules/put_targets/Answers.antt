use Rattle.std.proofs.Common.{List, ◌++◌, map, ap₂, sym, ◌∙◌}
use Rattle.vt_stores.specs.Shapes.{shape_of}
use Rattle.check_inspect.specs.declared.finding.ReferenceAt.{ReferenceAt}
use Rattle.check_inspect.specs.declared.rules.ReferenceRule.TheVariants.{MacroMissing, MacroKind}
use Rattle.check_inspect.specs.Findings.{if_all, reference_finding, target_findings}
use Rattle.check_inspect.proofs.lemmas.Appends.{two_parts}
use Rattle.check_inspect.proofs.lemmas.Commands.{on_ok}
use Rattle.check_inspect.proofs.rules.put_targets.Goals as goal

pub returns : goal.returns
returns c =
    let shape = shape_of c.args.objects.now in
    let absent = c.as_slice.result.now in
    let wrong = c.as_slice-2.result.now in
    on_ok c.put_references.result c.put_references.ensures
    (λ last. two_parts c.args.findings.now.items (if_all c.args.are_all (map (reference_finding MacroMissing) absent)) (map (reference_finding MacroKind) wrong)
    (target_findings c.args.are_all shape) c.put_if.new.findings.items c.put_references.new.findings.items c.in_ok-put_if.ensures last
    (ap₂ (λ (a b : List ReferenceAt). if_all c.args.are_all (map (reference_finding MacroMissing) a) ++ map (reference_finding MacroKind) b)
    (sym (c.as_slice.ensures.value ∙ c.in_ok-absent.ensures)) (sym (c.as_slice-2.ensures.value ∙ c.in_ok-wrong.ensures))))
