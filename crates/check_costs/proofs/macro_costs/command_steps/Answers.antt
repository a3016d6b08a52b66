use Rattle.std.proofs.Common.{◌≡◌, ℕ, ◌+◌, List, map, ap, ◌∙◌, arith}
use Rattle.std.proofs.lemmas.List.Sums.{sum_by-cons}
use Rattle.std.specs.Prelude.{sum_by}
use Rattle.vt_commands.specs.declared.raising.Raised.{Raised}
use Rattle.vt_stores.specs.Shapes.{Shape, shape_of}
use Rattle.vt_verify.specs.Triggers.{listing, listing_of}
use Rattle.check_costs.specs.declared.share.EventCost.{EventCost}
use Rattle.check_costs.specs.Shares.{counted, event_cost, hide_by, steps_of}
use Rattle.check_costs.proofs.EventSteps.{raised_steps, command_is}
use Rattle.check_costs.proofs.macro_costs.command_steps.Goals as goal

-- the steps of events
abbrev steps_in : Shape → List Raised → ℕ
steps_in shape raised = sum_by (λ e. (event_cost shape e).steps) (map listing_of raised)

pub loop-raised-init : goal.loop-raised-init
loop-raised-init c =
    let shape = shape_of c.args.pool.now.objects.now in
    let all = c.into_iter-raised-iterator.ensures.into_iter_gives.0 ∙ c.row_events-raised-items.ensures in
    let sums = ap (steps_in shape) all in
    let hidden = c.hide_steps.ensures in
    let is : counted (c.min-steps.result + steps_in shape c.into_iter-raised-iterator.result)
    ≡ counted (1 + steps_of (hide_by c.args.command.now c.args.hide.now) + raised_steps shape c.args.command.now) =
    omega (arith, sums, hidden) in
    (tt, tt, omega arith, is)

pub loop-raised-preserved : goal.loop-raised-preserved
loop-raised-preserved c =
    let shape = shape_of c.args.pool.now.objects.now in
    let raised = c.in-Some.raised in
    let left = c.in-Some.ensures.steps in
    let all = 1 + steps_of (hide_by c.args.command.now c.args.hide.now) + raised_steps shape c.args.command.now in
    let done : counted (c.loop-raised.steps + steps_in shape c.loop-raised.raised-iterator) ≡ counted all = c.loop-raised.invariant.3 in
    let first = ap (steps_in shape) left in
    let sum = sum_by-cons (λ e. (event_cost shape e).steps) (listing_of raised) (map listing_of c.next.new.self) in
    let cost = ap (λ (e : EventCost). e.steps) (c.event_cost-event.ensures ∙ ap (λ (n : ℕ). event_cost shape (listing raised.id n)) c.number.ensures) in
    let is : counted (c.min-steps-in-loop-raised.result + steps_in shape c.next.new.self) ≡ counted all = omega (arith, first, sum, cost, done) in
    (tt, tt, omega arith, is)

pub returns : goal.returns
returns c =
    let shape = shape_of c.args.pool.now.objects.now in
    let same = command_is shape c.args.hide.now c.args.command.now c.requires.hide in
    let all = 1 + steps_of (hide_by c.args.command.now c.args.hide.now) + raised_steps shape c.args.command.now in
    let done : counted (c.loop-raised.steps + steps_in shape c.loop-raised.raised-iterator) ≡ counted all = c.loop-raised.invariant.3 in
    let bound = c.loop-raised.invariant.2 in
    let none = ap (steps_in shape) c.in-None.ensures.steps.0 in
    omega (arith, none, done, bound, same)
