use Rattle.std.proofs.Common.{ℕ, min, ap₂, ◌∙◌}
use Rattle.vt_stores.specs.Shapes.{shape_of}
use Rattle.vt_verify.proofs.lemmas.graphs.SameCosts.{cost_is}
use Rattle.check_inspect.proofs.triggers.put_over.Goals as goal

pub put_macros_over-requires : goal.put_macros_over-requires
put_macros_over-requires c id =
    c.costs_up_to-costs.ensures id
    ∙ ap₂ (λ (a b : ℕ). min a b) (cost_is (shape_of c.args.objects.now) c.args.triggers.now.events.keys c.args.triggers.now.graph c.requires.triggers id) c.over_budget.ensures

pub put_events_over-requires-clause-costs : goal.put_events_over-requires-clause-costs
put_events_over-requires-clause-costs c id =
    c.costs_up_to-costs.ensures id
    ∙ ap₂ (λ (a b : ℕ). min a b) (cost_is (shape_of c.args.objects.now) c.args.triggers.now.events.keys c.args.triggers.now.graph c.requires.triggers id) c.over_budget.ensures
