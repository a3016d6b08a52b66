use Rattle.std.proofs.Common.{ℕ, min, map, ap, ◌∙◌, rules}
use Rattle.vt_rank.proofs.Totals as graphs
use Rattle.vt_stores.specs.Shapes.{shape_of}
use Rattle.vt_verify.proofs.lemmas.graphs.SameCosts.{cost_is, costs_are_totals}
use Rattle.vt_verify.proofs.lemmas.graphs.SameTriggers.{circle_is}
use Rattle.check_costs.specs.Shares.{macro_row}
use Rattle.check_costs.specs.declared.share.TheConstants.{MOST_STEPS}
use Rattle.check_costs.proofs.breakdown.break_down.Goals as goal

pub returns-in_default-clause-unknown : goal.returns-in_default-clause-unknown
returns-in_default-clause-unknown c = λ whole none.
    let t = c.in_ok-triggers.triggers in
    none c.in_default.field-0.path.items (circle_is (shape_of c.args.objects.now) t.events.keys t.graph c.in_ok-triggers.ensures c.in_default.field-0.path.items c.in_default.ensures.circle)

pub costliest_hide-requires : goal.costliest_hide-requires
costliest_hide-requires c =
    let t = c.in_ok-triggers.triggers in
    record {
      triggers = c.in_ok-triggers.ensures;
      steps = λ id. c.costs_up_to-steps.ensures id ∙ ap (λ (n : ℕ). min n MOST_STEPS) (cost_is (shape_of c.args.objects.now) t.events.keys t.graph c.in_ok-triggers.ensures id);
    }

pub macro_costs-requires-clause-pool : goal.macro_costs-requires-clause-pool
macro_costs-requires-clause-pool c =
    let t = c.in_ok-triggers.triggers in
    record {
      triggers = c.in_ok-triggers.ensures;
      steps = λ id. c.costs_up_to-steps.ensures id ∙ ap (λ (n : ℕ). min n MOST_STEPS) (cost_is (shape_of c.args.objects.now) t.events.keys t.graph c.in_ok-triggers.ensures id);
    }

pub event_cost-requires : goal.event_cost-requires
event_cost-requires c =
    let t = c.in_ok-triggers.triggers in
    record {
      triggers = c.in_ok-triggers.ensures;
      steps = λ id. c.costs_up_to-steps.ensures id ∙ ap (λ (n : ℕ). min n MOST_STEPS) (cost_is (shape_of c.args.objects.now) t.events.keys t.graph c.in_ok-triggers.ensures id);
    }

pub returns-clause-known : goal.returns-clause-known
returns-clause-known c =
    let shape = shape_of c.args.objects.now in
    let t = c.in_ok-triggers.triggers in
    record {
      whole = search rules;
      of_event = c.event_cost.ensures;
      hide = c.costliest_hide.result;
      costliest = c.costliest_hide.ensures;
      ids = c.in_ok-ids.ids.items;
      runnable = c.in_ok-ids.ensures;
      macros = c.in_ok-macros.ensures ∙ ap (map (macro_row shape c.costliest_hide.result)) c.deref.ensures.value;
      listings = c.into_listings.ensures shape c.in_ok-triggers.ensures;
      totals = costs_are_totals shape t.events.keys t.graph c.in_ok-triggers.ensures (graphs.costs_are_totals t.graph c.in-Ok.ranks c.in-Ok.ensures.falls);
    }
