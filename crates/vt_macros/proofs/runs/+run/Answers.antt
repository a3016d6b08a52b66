use Rattle.std.proofs.Common.{arith, ◌≡◌, ℕ, List, [], ◌∷◌, sum_by, ap, sym, subst, ◌∙◌}
use Rattle.std.proofs.lemmas.List.Sums.{sum_by-cons}
use Rattle.std.specs.Option.{option_to_list}
use Rattle.vt_commands.specs.declared.command.Command.{Command}
use Rattle.vt_macros.specs.declared.audio.Audio.{Audio}
use Rattle.vt_macros.specs.Indexes.{no_span}
use Rattle.vt_macros.specs.Machines.{joined_all, total_budget}
use Rattle.vt_macros.specs.NestedRuns.{HaveRun, commands_at, cost_on_store}
use Rattle.vt_effects.specs.Soundness.{shape_in}
use Rattle.vt_macros.proofs.StoreOfNestedRuns.{macro_within, macros_end, macro_ran, item_ran, piece_within, piece_faultless, pieces_end, piece_ran, events_within, can_raise, command_ran, command_refused}
use Rattle.vt_macros.proofs.runs.+run.Goals as goal

pub raise-run_macro-steps-requires : goal.raise-run_macro-steps-requires
raise-run_macro-steps-requires g t c κs within =
    let old = g.S.Store.contents c.args.store.now in
    let le = macro_within c.args.index.now old c.args.audio.now c.macros_at-macro_id-items.result.now c.args.id c.args.event (c.macros_at-macro_id-items.ensures.listed (shape_in old) c.requires.indexed)
    c.loop-macro_id.macro_id-index c.loop-macro_id.steps 0 (g.S.Store.contents c.loop-macro_id.store) c.loop-macro_id.audio c.loop-macro_id.levels c.loop-macro_id.invariant c.loop-macro_id-test.true in
    let measure = c.decreases in
    (omega (arith, measure, le), (within, c.loop-macro_id.invariant.can))

pub raise-overflow_add-steps : goal.raise-overflow_add-steps
raise-overflow_add-steps g t c =
    let old = g.S.Store.contents c.args.store.now in
    let le = macro_within c.args.index.now old c.args.audio.now c.macros_at-macro_id-items.result.now c.args.id c.args.event (c.macros_at-macro_id-items.ensures.listed (shape_in old) c.requires.indexed)
    c.loop-macro_id.macro_id-index c.loop-macro_id.steps 0 (g.S.Store.contents c.loop-macro_id.store) c.loop-macro_id.audio c.loop-macro_id.levels c.loop-macro_id.invariant c.loop-macro_id-test.true in
    let most = c.requires.within.budgets c.args.id c.args.event in
    let ran = c.run_macro-steps.ensures.within in
    omega (arith, le, most, ran)

pub raise-loop-macro_id-preserved : goal.raise-loop-macro_id-preserved
raise-loop-macro_id-preserved g t c =
    macro_ran c.args.index.now (g.S.Store.contents c.args.store.now) c.args.audio.now c.macros_at-macro_id-items.result.now c.loop-macro_id.macro_id-index c.loop-macro_id.steps c.run_macro-steps.result _ 0
    (g.S.Store.contents c.loop-macro_id.store) (g.S.Store.contents c.run_macro-steps.new.store) c.loop-macro_id.audio c.run_macro-steps.new.audio c.loop-macro_id.levels c.run_macro-steps.new.levels
    c.loop-macro_id.invariant c.loop-macro_id-test.true c.run_macro-steps.ensures (omega arith)

pub raise-returns : goal.raise-returns
raise-returns g t c =
    let old = g.S.Store.contents c.args.store.now in
    macros_end c.args.index.now old c.args.audio.now c.macros_at-macro_id-items.result.now c.args.id c.args.event (c.macros_at-macro_id-items.ensures.listed (shape_in old) c.requires.indexed)
    c.loop-macro_id.macro_id-index c.loop-macro_id.steps (g.S.Store.contents c.loop-macro_id.store) c.loop-macro_id.audio c.loop-macro_id.levels c.loop-macro_id.invariant c.loop-macro_id-test.false

pub raise_all-loop-event-preserved : goal.raise_all-loop-event-preserved
raise_all-loop-event-preserved g t c =
    item_ran c.args.index.now (g.S.Store.contents c.args.store.now) c.args.audio.now c.args.raised.now c.loop-event.event-index c.loop-event.steps c.raise-steps.result _ c.number.result
    c.event-item.result _ (g.S.Store.contents c.loop-event.store) (g.S.Store.contents c.raise-steps.new.store) c.loop-event.audio c.raise-steps.new.audio c.loop-event.levels c.raise-steps.new.levels
    c.loop-event.invariant c.loop-event-test.true c.event-item.is c.number.ensures c.raise-steps.ensures (omega arith)

pub run_macro-run_piece-steps-requires : goal.run_macro-run_piece-steps-requires
run_macro-run_piece-steps-requires g t c κs within =
    let old = g.S.Store.contents c.args.store.now in
    let now = g.S.Store.contents c.loop-piece.store in
    let are = c.pieces-piece-items.ensures.commands (shape_in old) c.requires.indexed in
    let le = piece_within c.args.index.now old c.args.audio.now c.args.levels.now c.requires c.args.id c.pieces-piece-items.result.now are
    c.loop-piece.piece-index c.loop-piece.steps no_span now c.loop-piece.audio c.loop-piece.levels c.loop-piece.invariant c.loop-piece-test.true in
    let most = c.requires.within.costs c.args.id in
    let measure = c.decreases in (
      omega (arith, measure, le),
      (
        within,
        (
          c.loop-piece.invariant.can,
          (
            piece_faultless c.args.index.now old c.args.audio.now c.args.levels.now c.requires c.args.id c.pieces-piece-items.result.now are
                c.loop-piece.piece-index c.loop-piece.steps no_span now c.loop-piece.audio c.loop-piece.levels c.loop-piece.invariant c.loop-piece-test.true,
            omega (arith, le, most),
          ),
        ),
      ),
    )

pub run_macro-overflow_add-steps : goal.run_macro-overflow_add-steps
run_macro-overflow_add-steps g t c =
    let old = g.S.Store.contents c.args.store.now in
    let now = g.S.Store.contents c.loop-piece.store in
    let are = c.pieces-piece-items.ensures.commands (shape_in old) c.requires.indexed in
    let le = piece_within c.args.index.now old c.args.audio.now c.args.levels.now c.requires c.args.id c.pieces-piece-items.result.now are
    c.loop-piece.piece-index c.loop-piece.steps no_span now c.loop-piece.audio c.loop-piece.levels c.loop-piece.invariant c.loop-piece-test.true in
    let most = c.requires.within.costs c.args.id in
    let ran = c.run_piece-steps.ensures.within in
    omega (arith, le, most, ran)

pub run_macro-loop-piece-preserved : goal.run_macro-loop-piece-preserved
run_macro-loop-piece-preserved g t c =
    piece_ran c.args.index.now (g.S.Store.contents c.args.store.now) c.args.audio.now c.pieces-piece-items.result.now c.loop-piece.piece-index c.loop-piece.steps c.run_piece-steps.result _
    no_span (g.S.Store.contents c.loop-piece.store) (g.S.Store.contents c.run_piece-steps.new.store) c.loop-piece.audio c.run_piece-steps.new.audio c.loop-piece.levels c.run_piece-steps.new.levels
    c.loop-piece.invariant c.loop-piece-test.true c.run_piece-steps.ensures (omega arith)

pub run_macro-returns : goal.run_macro-returns
run_macro-returns g t c =
    pieces_end c.args.index.now (g.S.Store.contents c.args.store.now) c.args.audio.now c.args.levels.now c.requires c.args.id c.pieces-piece-items.result.now
    (c.pieces-piece-items.ensures.commands (shape_in (g.S.Store.contents c.args.store.now)) c.requires.indexed)
    c.loop-piece.piece-index c.loop-piece.steps (g.S.Store.contents c.loop-piece.store) c.loop-piece.audio c.loop-piece.levels c.loop-piece.invariant c.loop-piece-test.false

pub take-raise_all-requires : goal.take-raise_all-requires
take-raise_all-requires g t c κs within =
    let m = g.S.Store.contents c.args.store.now in
    let new = g.S.Store.contents c.execute.new.store in
    let events = c.deref.ensures.0 ∙ c.events_of-raised.ensures in
    let le = events_within c.args.index.now m c.args.audio.now c.args.levels.now c.args.command.now c.requires.can c.deref.result.now events c.in-Ok.ensures.result new c.execute.ensures.objects in
    let small = c.requires.small in
    let measure = c.decreases in (
      omega (arith, measure, le),
      (
        within,
        (
          can_raise c.args.index.now m c.args.audio.now c.args.levels.now c.args.command.now c.requires.can c.deref.result.now events c.in-Ok.ensures.result new c.execute.ensures.objects
              c.execute.new.levels c.execute.ensures.levels,
          omega (arith, le, small),
        ),
      ),
    )

pub take-returns-in-Ok : goal.take-returns-in-Ok
take-returns-in-Ok g t c =
    let m = g.S.Store.contents c.args.store.now in
    let new = g.S.Store.contents c.execute.new.store in
    let events = c.deref.ensures.0 ∙ c.events_of-raised.ensures in
    command_ran c.args.index.now m c.args.audio.now c.args.levels.now c.args.command.now c.requires.can c.deref.result.now events c.in-Ok.ensures.result new c.execute.ensures.objects
    c.raise_all.result (g.S.Store.contents c.raise_all.new.store) c.raise_all.new.audio c.raise_all.new.levels c.requires.fault
    (subst (λ (a : Audio). HaveRun c.args.index.now new a (joined_all (shape_in new) c.deref.result.now) (total_budget (shape_in new) c.deref.result.now) c.raise_all.result
    (g.S.Store.contents c.raise_all.new.store) c.raise_all.new.audio c.raise_all.new.levels) c.note.ensures c.raise_all.ensures)

pub take-returns-in-Err : goal.take-returns-in-Err
take-returns-in-Err g t c =
    command_refused c.args.index.now (g.S.Store.contents c.args.store.now) (g.S.Store.contents c.execute.new.store) c.args.audio.now c.args.levels.now c.execute.new.levels c.args.command.now c.in-Err._error
    c.requires.can c.requires.fault c.in-Err.ensures.result c.execute.ensures.objects c.execute.ensures.levels

pub run_piece-returns-in-Some : goal.run_piece-returns-in-Some
run_piece-returns-in-Some g t c =
    let m = g.S.Store.contents c.args.store.now in
    let new = g.S.Store.contents c.take.new.store in
    let front : commands_at c.args.index.now c.args.piece.now ≡ c.in-Some.command ∷ [] = ap option_to_list (sym c.command.ensures ∙ c.in-Some.is) in
    let cost : sum_by (cost_on_store m) (c.in-Some.command ∷ []) ≡ cost_on_store m c.in-Some.command =
    let more = sum_by-cons (cost_on_store m) c.in-Some.command [] in omega (arith, more) in
    subst (λ (l : List Command). HaveRun c.args.index.now m c.args.audio.now l (sum_by (cost_on_store m) l) c.take.result new c.take.new.audio c.take.new.levels) (sym front)
    (subst (λ (n : ℕ). HaveRun c.args.index.now m c.args.audio.now (c.in-Some.command ∷ []) n c.take.result new c.take.new.audio c.take.new.levels) (sym cost) c.take.ensures)
