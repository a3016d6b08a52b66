use Rattle.std.proofs.Common.{◌≡◌, IfOk, ap, subst, ◌∙◌}
use Rattle.vt_stores.specs.Stores.{ObjectMap}
use Rattle.vt_effects.specs.Effects.{kind_in}
use Rattle.vt_machine.specs.SetStates.{SetState, fresh_set}
use Rattle.vt_machine.proofs.StateBeforeAndAfter.{stored_is, stored_closed, stored_shallow, stored_indexed, stored_runs}
use Rattle.vt_machine.proofs.live.Live.new.Goals as goal

pub of_store-requires-clause-closed : goal.of_store-requires-clause-closed
of_store-requires-clause-closed g c =
    stored_closed (g.S.Store.contents c.in_ok-store.store) c.args.accepted.now
    (c.in_ok-store.ensures ∙ stored_is c.objects.result.now c.args.accepted.now c.objects.ensures.all c.objects.ensures.stored)
    c.objects.ensures.stored c.objects.ensures.acceptable

pub of_store-requires-clause-shallow : goal.of_store-requires-clause-shallow
of_store-requires-clause-shallow g c =
    stored_shallow (g.S.Store.contents c.in_ok-store.store) c.args.accepted.now
    (c.in_ok-store.ensures ∙ stored_is c.objects.result.now c.args.accepted.now c.objects.ensures.all c.objects.ensures.stored)
    c.objects.ensures.stored c.objects.ensures.acceptable

pub find_quiet-requires : goal.find_quiet-requires
find_quiet-requires g c =
    stored_indexed (g.S.Store.contents c.in_ok-store.store) c.args.accepted.now c.in_ok-index.index
    (c.in_ok-store.ensures ∙ stored_is c.objects.result.now c.args.accepted.now c.objects.ensures.all c.objects.ensures.stored)
    c.objects.ensures.stored c.objects.ensures.acceptable c.in_ok-index.ensures

pub of_parts-requires-clause-runs : goal.of_parts-requires-clause-runs
of_parts-requires-clause-runs g c =
    stored_runs (g.S.Store.contents c.in_ok-store.store) c.args.accepted.now c.find_quiet.new.self c.in_ok-levels.levels
    (c.in_ok-store.ensures ∙ stored_is c.objects.result.now c.args.accepted.now c.objects.ensures.all c.objects.ensures.stored)
    c.objects.ensures.stored c.objects.ensures.acceptable c.objects.ensures.totals c.find_quiet.ensures c.in_ok-levels.ensures

pub of_parts-requires-clause-set : goal.of_parts-requires-clause-set
of_parts-requires-clause-set g c =
    ap (λ (m : ObjectMap). kind_in m c.working_set_of-working_set.result)
    (c.in_ok-store.ensures ∙ stored_is c.objects.result.now c.args.accepted.now c.objects.ensures.all c.objects.ensures.stored)
    ∙ c.working_set_of-working_set.ensures

pub returns : goal.returns
returns g c =
    subst (λ (m : ObjectMap). IfOk c.of_parts.result (λ (live : SetState). live ≡ fresh_set m))
    (c.in_ok-store.ensures ∙ stored_is c.objects.result.now c.args.accepted.now c.objects.ensures.all c.objects.ensures.stored)
    c.of_parts.ensures
