use Rattle.std.proofs.Common.{List, [], ◌∷◌, ◌++◌, get_or, map, take, sym, ap, ap₂, ◌∙◌, arith}
use Rattle.std.proofs.lemmas.List.{take_more, take_all, map-append}
use Rattle.vt_stores.specs.Shapes.{shape_of}
use Rattle.check_costs.specs.Shares.{MacroRow, row_of, macro_row}
use Rattle.check_costs.proofs.breakdown.macro_costs.Goals as goal

pub loop-id-preserved : goal.loop-id-preserved
loop-id-preserved c =
    let row = macro_row (shape_of c.args.pool.now.objects.now) c.args.hide.now in
    ap (map row_of) c.in_ok-push.ensures.items
    ∙ map-append row_of c.loop-id.costs.items (c.in_ok-macro_cost.field-0 ∷ [])
    ∙ ap₂ (λ (xs ys : List MacroRow). xs ++ ys) c.loop-id.invariant (ap (λ (r : MacroRow). r ∷ []) c.in_ok-macro_cost.ensures)
    ∙ sym (ap (map row) (take_more c.args.ids.now c.loop-id.id-index 0 c.loop-id-test.true) ∙ map-append row (take c.loop-id.id-index c.args.ids.now) (get_or c.args.ids.now c.loop-id.id-index 0 ∷ []))

pub returns : goal.returns
returns c =
    c.loop-id.invariant
    ∙ ap (map (macro_row (shape_of c.args.pool.now.objects.now) c.args.hide.now)) (take_all c.loop-id.id-index c.args.ids.now (omega (arith, c.loop-id-test.false)))
