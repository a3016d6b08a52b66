use Rattle.std.proofs.Common.{◌≡◌, ◌≤◌, List, ◌++◌, Some, length, rules, ap, subst, ◌∙◌}
use Rattle.std.specs.Prelude.{slice_get}
use Rattle.std.specs.List.{flat_map}
use Rattle.vt_stores.specs.Stores.{Objects}
use Rattle.vt_verify.specs.declared.listing.Listing.{Listing}
use Rattle.vt_stores.specs.Shapes.{shape_of}
use Rattle.vt_verify.specs.Budgets.{budget}
use Rattle.vt_verify.specs.TriggerGraphs.{listed_events}
use Rattle.vt_verify.specs.Reports.{report_text, count_line, event_line, budget_line}
use Rattle.vt_verify.proofs.lemmas.budgets.EventBudgets.{step_at}
use Rattle.vt_verify.proofs.lemmas.budgets.ReportLines.{line_added, all_taken}
use Rattle.vt_verify.proofs.accepted.Accepted.text.Goals as goal

pub loop-place-preserved : goal.loop-place-preserved
loop-place-preserved c =
    let inside = c.self.inside in
    let shape = shape_of c.args.self.now in
    let events = c.self.invariant.2.events_are ∙ ap (λ (objects : Objects). listed_events (shape_of objects)) c.self.view_is in
    let there : slice_get (listed_events shape) c.loop-place.place ≡ Some c.index.result.now =
    subst (λ (es : List Listing). slice_get es c.loop-place.place ≡ Some c.index.result.now) events c.index.ensures in
    let raised = c.index.result.now in
    let steps =
    step_at (λ (e : Listing). budget (shape_of inside.objects) e.id e.event) inside.budgets.steps.items inside.budgets.events.keys c.loop-place.place raised c.index-in-loop-place.result.now
    c.self.invariant.2.steps_are c.index.ensures c.index-in-loop-place.ensures
    ∙ ap (λ (objects : Objects). budget (shape_of objects) raised.id raised.event) c.self.view_is in
    line_added (event_line shape) (count_line (length c.args.self.now)) c.loop-place.text.items _ (listed_events shape) c.loop-place.place raised
    _ there c.loop-place.invariant
    (ap (budget_line raised) steps) c.in_ok-push_line.ensures

pub returns : goal.returns
unfolding report_text
returns c =
    let shape = shape_of c.args.self.now in
    let events = c.self.invariant.2.events_are ∙ ap (λ (objects : Objects). listed_events (shape_of objects)) c.self.view_is in
    let keys : length c.self.inside.budgets.events.keys ≤ c.loop-place.place = search rules in
    let end : length (listed_events shape) ≤ c.loop-place.place = subst (λ (es : List Listing). length es ≤ c.loop-place.place) events keys in
    c.loop-place.invariant
    ∙ ap (λ (es : List Listing). count_line (length c.args.self.now) ++ flat_map (event_line shape) es) (all_taken (event_line shape) (listed_events shape) c.loop-place.place end)
