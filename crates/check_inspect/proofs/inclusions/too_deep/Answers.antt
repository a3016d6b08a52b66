use Rattle.std.proofs.Common.{◌≡◌, ℕ, true, eqb, List, length, map, subst, sym, ◌∙◌}
use Rattle.std.proofs.lemmas.Bool.{eqb-true}
use Rattle.std.specs.Option.{option_to_list}
use Rattle.vt_verify.proofs.lemmas.graphs.SameTriggers.{everywhere}
use Rattle.vt_verify.proofs.lemmas.references.IncludedObjectsExist.{closed}
use Rattle.check_inspect.specs.declared.finding.Finding.TheVariants.{TooDeep}
use Rattle.check_inspect.specs.Findings.{IsDeepest}
use Rattle.check_inspect.proofs.lemmas.Appends.{nothing}
use Rattle.check_inspect.proofs.lemmas.Commands.{if_ok}
use Rattle.check_inspect.proofs.lemmas.Whole.{none_missing}
use Rattle.check_inspect.proofs.inclusions.too_deep.Goals as goal

pub deep_chain-requires-clause-closed : goal.deep_chain-requires-clause-closed
deep_chain-requires-clause-closed c =
    let is : eqb (length c.args.absent.now) 0 ≡ true = sym c.is_empty.ensures ∙ c.if-is_empty.true in
    let none = nothing c.args.absent.now (eqb-true (length c.args.absent.now) 0 is) in
    closed c.args.objects.now (none_missing c.args.objects.now (sym c.requires.absent ∙ none))

pub returns : goal.returns
returns c =
    let same = everywhere c.in_ok-closed.ensures.closes.same in
    if_ok c.deep_chain-2.result c.deep_chain-2.ensures
    (λ chain is. subst (λ (inside : ℕ → List ℕ). IsDeepest inside (map TooDeep (option_to_list chain))) same is)
