use Rattle.std.proofs.Common.{ℕ, false, List, sym, ap, subst, ◌∙◌}
use Rattle.std.specs.Prelude.{slice_index_or, filter, reverse}
use Rattle.vt_rank.specs.NodeSets.{IsReached}
use Rattle.vt_stores.specs.Shapes.{shape_of}
use Rattle.vt_verify.specs.Triggers.{listing}
use Rattle.check_costs.proofs.Lists.{if_ok, ordered_below}
use Rattle.check_costs.proofs.Runs.{runs_exactly}
use Rattle.check_costs.proofs.runnable.runnable.Goals as goal

pub returns : goal.returns
returns c =
    let shape = shape_of c.args.objects.now in
    let event = listing c.args.id c.args.event in
    let g = c.args.triggers.now.graph in
    let order = c.in_ok-order.order in
    let here = c.macros_at.ensures shape c.requires.triggers in
    if_ok c.of_order.result c.of_order.ensures
    (λ ids are. record {
      order = order.items;
      by_rank = c.in_ok-order.ensures;
      runs = λ id. slice_index_or c.reached-reached.result id false;
      can_run = λ id inside.
          let small = ordered_below shape order.items id c.in_ok-order.ensures inside in
          let reached = c.reached-reached.ensures id small in
          let runs = runs_exactly shape c.args.triggers.now.events.keys g c.requires.triggers event id in
          (λ is. runs.0 (subst (λ (ns : List ℕ). IsReached g ns id) here (reached.0 is)), λ can. reached.1 (subst (λ (ns : List ℕ). IsReached g ns id) (sym here) (runs.1 can)));
      are = are ∙ ap (λ (l : List ℕ). reverse (filter (λ id. slice_index_or c.reached-reached.result id false) l)) c.deref.ensures.value;
    })
