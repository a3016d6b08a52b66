use Rattle.std.proofs.Common.{List, ◌++◌, map, ap, ◌∙◌, refl}
use Rattle.vt_stores.specs.Shapes.{shape_of}
use Rattle.check_inspect.specs.declared.finding.Finding.TheVariants as findings
use Rattle.check_inspect.specs.declared.finding.ReferenceAt.{ReferenceAt}
use Rattle.check_inspect.specs.declared.rules.ReferenceRule.TheVariants as rules
use Rattle.check_inspect.specs.Findings.{if_all, reference_finding, working_set_ids, set_findings, slot_findings}
use Rattle.check_inspect.specs.References.{missing_at, wrong_kinds_at}
use Rattle.check_inspect.proofs.lemmas.Appends.{two_parts}
use Rattle.check_inspect.proofs.lemmas.Commands.{on_ok}
use Rattle.check_inspect.proofs.rules.put_slots.Goals as goal

pub returns : goal.returns
returns c =
    let objects = c.args.objects.now in
    let old = c.args.findings.now.items in
    let sets = set_findings c.args.are_all (working_set_ids (shape_of objects)) in
    let absent = if_all c.args.are_all (map findings.Missing (missing_at objects)) in
    let wrong = map findings.WrongKind (wrong_kinds_at objects) in
    let second = c.in_ok-put_if.ensures
    ∙ ap (λ (rs : List ReferenceAt). c.put_working_sets.new.findings.items ++ if_all c.args.are_all (map (reference_finding rules.Missing) rs))
    (c.as_slice.ensures.value ∙ c.in_ok-absent.ensures) in
    let third = c.in_ok-put_references.ensures
    ∙ ap (λ (rs : List ReferenceAt). c.put_if.new.findings.items ++ map (reference_finding rules.WrongKind) rs) (c.as_slice-2.ensures.value ∙ c.in_ok-wrong.ensures) in
    let two = two_parts old sets absent (sets ++ absent) c.put_working_sets.new.findings.items c.put_if.new.findings.items c.in_ok-put_working_sets.ensures second refl in
    let three = two_parts old (sets ++ absent) wrong (sets ++ absent ++ wrong) c.put_if.new.findings.items c.put_references.new.findings.items two third refl in
    on_ok c.put_too_deep.result c.put_too_deep.ensures
    (λ last. record {
      chains = last.chains;
      deepest = last.deepest;
      are = two_parts old (slot_findings c.args.are_all objects) last.chains (slot_findings c.args.are_all objects ++ last.chains)
          c.put_references.new.findings.items c.put_too_deep.new.findings.items three last.are refl;
    })
