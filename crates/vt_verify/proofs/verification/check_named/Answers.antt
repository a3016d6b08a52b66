use Rattle.std.proofs.Common.{sym, ◌∙◌}
use Rattle.vt_stores.specs.Shapes.{shape_of}
use Rattle.vt_verify.specs.References.{is_there, fits}
use Rattle.vt_chains.specs.Limits.{terminal}
use Rattle.vt_verify.specs.Targets.{macro_references}
use Rattle.vt_verify.proofs.lemmas.rules.Acceptance.{before_attributes}
use Rattle.vt_verify.proofs.lemmas.references.ReferenceTests.{both_pass}
use Rattle.vt_verify.proofs.verification.check_named.Goals as goal

pub returns-in-None-clause-ok : goal.returns-in-None-clause-ok
returns-in-None-clause-ok c =
    let shape = shape_of c.args.objects.now in
    let stand = both_pass (is_there shape) (fits shape) (macro_references shape) (sym c.failing_target.ensures ∙ c.in-None.is) in
    before_attributes terminal c.args.objects.now c.requires stand.0 stand.1
