use Rattle.std.proofs.Common.{ℕ, List, min, ap, ◌∙◌}
use Rattle.std.specs.Prelude.{sum_by, slice_index}
use Rattle.vt_stores.specs.Shapes.{shape_of}
use Rattle.vt_verify.specs.Triggers.{listing}
use Rattle.check_costs.specs.declared.share.TheConstants.{MOST_STEPS}
use Rattle.check_costs.proofs.EventSteps.{event_is}
use Rattle.check_costs.proofs.costed_pool.CostedPool.event_cost.Goals as goal

pub returns : goal.returns
returns c =
    let pool = c.args.self.now in
    let shape = shape_of pool.objects.now in
    ap (λ (n : ℕ). record { id = c.args.id; event = c.args.event; steps = n })
    (c.cost_of_nodes.ensures
    ∙ ap (λ (ids : List ℕ). min (sum_by (slice_index pool.steps) ids) MOST_STEPS) (c.macros_at-macros.ensures shape c.requires.triggers)
    ∙ event_is shape pool.steps (listing c.args.id c.args.event) c.requires.steps)
