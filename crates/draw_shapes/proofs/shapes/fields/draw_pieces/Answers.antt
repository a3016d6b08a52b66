use Rattle.std.proofs.Common.{◌≡◌, ◌<◌, ◌+◌, ◌-◌, ◌++◌, ℕ, List, length, take, ap, ◌∙◌, arith, rules}
use Rattle.draw_svg.specs.Elements.{text_of}
use Rattle.draw_shapes.specs.Fields.{alone, pieces, row_nodes, trimmed}
use Rattle.draw_shapes.proofs.Rows.{next_row, no_more, no_rows}
use Rattle.draw_shapes.proofs.shapes.fields.draw_pieces.Goals as goal

pub loop-row-preserved : goal.loop-row-preserved
loop-row-preserved c =
    let rest = c.loop-row.rest.now in
    let n = c.args.characters in
    let full : 0 < length rest = search rules in
    let made : c.draw_row.new.out.items ≡ c.loop-row.out.items ++ text_of (alone c.args.look c.args.field c.loop-row.row (trimmed (take n rest))) =
    c.in_ok-draw_row.ensures
    ∙ ap (λ (row : List ℕ). c.loop-row.out.items ++ text_of (alone c.args.look c.args.field c.loop-row.row row)) (c.trimmed.ensures.is ∙ ap trimmed c.cut.ensures.first) in
    let step = next_row c.args.look c.args.field c.loop-row.row c.args.rows n rest c.loop-row.out.items c.draw_row.new.out.items _ c.loop-row-test.true full made c.loop-row.invariant.1 in (
      omega (arith, c.loop-row-test.true),
      ap (λ (text : List ℕ). c.draw_row.new.out.items ++ text_of (row_nodes c.args.look c.args.field (c.loop-row.row + 1) (pieces (c.args.rows - (c.loop-row.row + 1)) n text))) c.cut.ensures.later ∙ step,
    )

pub returns-else-not-is_empty : goal.returns-else-not-is_empty
returns-else-not-is_empty c =
    let none : length c.loop-row.rest.now ≡ 0 = search rules in
    no_more c.args.look c.args.field c.loop-row.row (c.args.rows - c.loop-row.row) c.args.characters c.loop-row.rest.now c.loop-row.out.items _ none c.loop-row.invariant.1

pub returns-after-loop-row : goal.returns-after-loop-row
returns-after-loop-row c =
    let none : c.args.rows - c.loop-row.row ≡ 0 = omega (arith, c.loop-row-test.false) in
    no_rows c.args.look c.args.field c.loop-row.row (c.args.rows - c.loop-row.row) c.args.characters c.loop-row.rest.now c.loop-row.out.items _ none c.loop-row.invariant.1
