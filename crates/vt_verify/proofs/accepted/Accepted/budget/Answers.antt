use Rattle.std.proofs.Common.{List, sym, ap, ◌∙◌}
use Rattle.vt_stores.specs.Stores.{Objects}
use Rattle.vt_verify.specs.declared.listing.Listing.{Listing}
use Rattle.vt_stores.specs.Shapes.{shape_of}
use Rattle.vt_verify.specs.Budgets.{budget}
use Rattle.vt_verify.specs.Triggers.{listing}
use Rattle.vt_verify.specs.TriggerGraphs.{group_of_event}
use Rattle.vt_verify.proofs.lemmas.graphs.EventGroups.{group_is}
use Rattle.vt_verify.proofs.lemmas.budgets.EventBudgets.{step_at, found_event, no_event}
use Rattle.vt_verify.proofs.accepted.Accepted.budget.Goals as goal

pub returns-in-Some-clause-budget : goal.returns-in-Some-clause-budget
returns-in-Some-clause-budget c =
    let inside = c.self.inside in
    let shape = shape_of inside.objects in
    let events = inside.budgets.events.keys in
    step_at (λ (e : Listing). budget shape e.id e.event) inside.budgets.steps.items events c.in-Some.place (listing c.args.id c.args.event) c.index.result.now
    c.self.invariant.2.steps_are
    (found_event (listing c.args.id c.args.event) events c.in-Some.place
    (sym (group_is events (listing c.args.id c.args.event)) ∙ sym c.get_index_of.ensures.index ∙ c.in-Some.is))
    c.index.ensures
    ∙ ap (λ (objects : Objects). budget (shape_of objects) c.args.id c.args.event) c.self.view_is

pub returns-in-None-clause-budget : goal.returns-in-None-clause-budget
returns-in-None-clause-budget c =
    let inside = c.self.inside in
    let shape = shape_of inside.objects in
    sym (no_event shape (listing c.args.id c.args.event)
    (ap (λ (es : List Listing). group_of_event es (listing c.args.id c.args.event)) (sym c.self.invariant.2.events_are)
    ∙ sym (group_is inside.budgets.events.keys (listing c.args.id c.args.event)) ∙ sym c.get_index_of.ensures.index ∙ c.in-None.is))
    ∙ ap (λ (objects : Objects). budget (shape_of objects) c.args.id c.args.event) c.self.view_is
