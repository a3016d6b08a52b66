use Rattle.std.proofs.Common.{◌+◌, ◌*◌, sum_by}
use Rattle.vt_verify.specs.Budgets.{budget, cost}
use Rattle.vt_verify.specs.Macros.{commands}
use Rattle.vt_macros.specs.Machines.{total_budget}
use Rattle.vt_effects.specs.Soundness.{shape_in}
use Rattle.vt_macros.specs.NestedRuns.{AreRunning, commands_at, cost_on_store}
use Rattle.vt_macros.proofs.StoreOfNestedRuns.{event_front, event_most}
use Rattle.vt_macros.proofs.runs.+run.Given as goal

abbrev pub decreases-raise_all : goal.decreases-raise_all
decreases-raise_all g l = 5 * total_budget (shape_in (g.S.Store.contents l.store.now)) l.raised.now + 4

abbrev pub decreases-raise : goal.decreases-raise
decreases-raise g l = 5 * budget (shape_in (g.S.Store.contents l.store.now)) l.id l.event + 3

abbrev pub decreases-run_macro : goal.decreases-run_macro
decreases-run_macro g l = 5 * cost (shape_in (g.S.Store.contents l.store.now)) l.id + 2

abbrev pub decreases-run_piece : goal.decreases-run_piece
decreases-run_piece g l = 5 * sum_by (cost_on_store (g.S.Store.contents l.store.now)) (commands_at l.index.now l.piece.now) + 1

abbrev pub decreases-take : goal.decreases-take
decreases-take g l = 5 * cost_on_store (g.S.Store.contents l.store.now) l.command.now

abbrev pub invariant-raise_all-loop-event : goal.invariant-raise_all-loop-event
invariant-raise_all-loop-event g l =
    AreRunning l.index (g.S.Store.contents l.fn.store) l.fn.audio (event_front (shape_in (g.S.Store.contents l.fn.store))) (event_most (shape_in (g.S.Store.contents l.fn.store)))
    l.raised l.event-index l.steps (g.S.Store.contents l.store) l.audio l.levels

abbrev pub invariant-raise-loop-macro_id : goal.invariant-raise-loop-macro_id
invariant-raise-loop-macro_id g l =
    AreRunning l.index (g.S.Store.contents l.fn.store) l.fn.audio (commands (shape_in (g.S.Store.contents l.fn.store))) (cost (shape_in (g.S.Store.contents l.fn.store)))
    l.macro_id-items l.macro_id-index l.steps (g.S.Store.contents l.store) l.audio l.levels

abbrev pub invariant-run_macro-loop-piece : goal.invariant-run_macro-loop-piece
invariant-run_macro-loop-piece g l =
    AreRunning l.index (g.S.Store.contents l.fn.store) l.fn.audio (commands_at l.index) (λ piece. sum_by (cost_on_store (g.S.Store.contents l.fn.store)) (commands_at l.index piece))
    l.piece-items l.piece-index l.steps (g.S.Store.contents l.store) l.audio l.levels
