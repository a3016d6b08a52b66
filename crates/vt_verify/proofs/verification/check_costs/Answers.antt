use Rattle.std.proofs.Common.{Result, List, ℕ, IfOk, subst}
use Rattle.vt_rank.specs.Costs.{IsWithin}
use Rattle.vt_rank.specs.declared.budget.OverBudget.{OverBudget}
use Rattle.vt_stores.specs.Shapes.{shape_of}
use Rattle.vt_verify.proofs.lemmas.rules.Acceptance.{acceptable}
use Rattle.vt_verify.proofs.lemmas.graphs.SameCosts.{costs_are_totals, is_within}
use Rattle.vt_verify.proofs.verification.check_costs.Goals as goal

pub returns-in_ok-of_triggers-in-Ok-clause-ok : goal.returns-in_ok-of_triggers-in-Ok-clause-ok
returns-in_ok-of_triggers-in-Ok-clause-ok c =
    let graph = c.args.triggers.graph in
    let within = subst (λ (found : Result (List ℕ) OverBudget). IfOk found (λ _. IsWithin graph c.args.limits.steps)) c.in-Ok.is c.costs.ensures.within in
    acceptable c.args.limits c.args.objects.now c.requires.before
    (is_within (shape_of c.args.objects.now) c.args.triggers.events.keys graph c.requires.triggers c.args.limits.steps within)

pub returns-in_ok-of_triggers-in-Ok-clause-totals : goal.returns-in_ok-of_triggers-in-Ok-clause-totals
returns-in_ok-of_triggers-in-Ok-clause-totals c =
    costs_are_totals (shape_of c.args.objects.now) c.args.triggers.events.keys c.args.triggers.graph c.requires.triggers c.costs.ensures.totals
