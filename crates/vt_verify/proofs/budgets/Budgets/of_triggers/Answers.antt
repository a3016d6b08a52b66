use Rattle.std.proofs.Common.{List, map, rules, ap, ◌∙◌}
use Rattle.vt_rank.specs.Graphs.{lists}
use Rattle.vt_verify.specs.declared.listing.Listing.{Listing}
use Rattle.vt_verify.specs.Budgets.{budget}
use Rattle.vt_verify.specs.Triggers.{listed}
use Rattle.vt_verify.proofs.lemmas.graphs.SameCosts.{group_cost_is}
use Rattle.vt_verify.proofs.lemmas.budgets.EventBudgets.{each_step}
use Rattle.vt_verify.proofs.lemmas.graphs.SameTriggers.{listings_are}
use Rattle.vt_verify.proofs.budgets.Budgets.of_triggers.Goals as goal

pub returns-clause-budgets : goal.returns-clause-budgets
returns-clause-budgets c shape are =
    let events = c.args.triggers.events.keys in
    let end = c.loop-group-test.false in
    let all = c.loop-group.auto.group-end in
    let len = c.len-group-end.ensures.len in
    let made = c.loop-group.invariant.0 in
    record {
      events_are = are.events_are;
      steps_are = each_step (λ (e : Listing). budget shape e.id e.event) c.loop-group.steps.items events (search rules)
          (λ k e lt is. c.loop-group.invariant.1 k (search rules) ∙ group_cost_is shape events c.args.triggers.graph are k e lt is);
    }

pub returns-clause-listings : goal.returns-clause-listings
returns-clause-listings c shape are =
    listings_are shape c.args.triggers.events.keys (lists c.args.triggers.graph.groups) are.events_are
    (are.groups ∙ ap (λ (es : List Listing). map (listed shape) es) are.events_are)
