use Rattle.std.proofs.Common.{ℕ, min, map, ap, ◌∙◌}
use Rattle.vt_stores.specs.Shapes.{shape_of}
use Rattle.vt_verify.proofs.lemmas.graphs.SameCosts.{cost_is}
use Rattle.vt_verify.proofs.lemmas.graphs.SameTriggers.{circle_is}
use Rattle.check_costs.specs.Shares.{event_cost}
use Rattle.check_costs.specs.declared.share.TheConstants.{MOST_STEPS}
use Rattle.check_costs.proofs.pool_costs.event_costs.Goals as goal

pub returns-in_default-clause-unknown : goal.returns-in_default-clause-unknown
returns-in_default-clause-unknown c = λ whole none.
    let t = c.in_ok-triggers.triggers in
    none c.in_default.field-0.path.items (circle_is (shape_of c.args.objects.now) t.events.keys t.graph c.in_ok-triggers.ensures c.in_default.field-0.path.items c.in_default.ensures.circle)

pub costs_of-requires : goal.costs_of-requires
costs_of-requires c =
    let t = c.in_ok-triggers.triggers in
    record {
      triggers = c.in_ok-triggers.ensures;
      steps = λ id. c.costs_up_to-steps.ensures id ∙ ap (λ (n : ℕ). min n MOST_STEPS) (cost_is (shape_of c.args.objects.now) t.events.keys t.graph c.in_ok-triggers.ensures id);
    }

pub returns-clause-known : goal.returns-clause-known
returns-clause-known c =
    c.in_ok-costs.ensures
    ∙ ap (map (event_cost (shape_of c.args.objects.now))) (c.as_slice.ensures.keys ∙ c.in_ok-triggers.ensures.events_are)
