use Rattle.std.proofs.Common.{◌≡◌, true, false, sym, ap, ◌∙◌}
use Rattle.vt_verify.specs.References.{may_refer}
use Rattle.vt_verify.proofs.lemmas.references.ReferenceTests.{null_fits, found_there, found_fits}
use Rattle.vt_verify.proofs.references.passes_both.Goals as goal

pub returns-then-is_null-clause-fit : goal.returns-then-is_null-clause-fit
returns-then-is_null-clause-fit c = λ may. null_fits c.args.objects.now c.args.reference c.requires (c.is_null.ensures.0 c.if-is_null.true)

pub returns-then-may_refer-clause-there : goal.returns-then-may_refer-clause-there
returns-then-may_refer-clause-there c =
    λ fits. found_there c.args.objects.now c.args.reference c.in-Some.object.now c.in-Some.ensures.found
    (λ null. let never : true ≡ false = sym (c.is_null.ensures.1 null) ∙ c.if-is_null.false in absurd cc)

pub returns-then-may_refer-clause-fit : goal.returns-then-may_refer-clause-fit
returns-then-may_refer-clause-fit c =
    λ fits. found_fits c.args.objects.now c.args.reference c.in-Some.object.now c.in-Some.ensures.found
    (λ null. let never : true ≡ false = sym (c.is_null.ensures.1 null) ∙ c.if-is_null.false in absurd cc)
    (sym (c.if-may_refer.ensures ∙ ap (may_refer c.args.reference.kinds c.args.reference.id) c.kind.ensures)) (c.value_fits.ensures fits)
