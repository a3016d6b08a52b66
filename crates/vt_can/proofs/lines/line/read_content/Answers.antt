use Rattle.std.proofs.Common.{◌≡◌, ◌++◌, Some, None, sym, subst}
use Rattle.std.specs.Prelude.{codes, Result}
use Rattle.std.proofs.lemmas.Bool.{iff_false}
use Rattle.std.proofs.lemmas.Bool.Decides.{Decides-eqb}
use Rattle.std.proofs.lemmas.Slice.Eq.{strip_prefix_is}
use Rattle.vt_can.specs.declared.lines.line.LineFault.{LineFault}
use Rattle.vt_can.specs.lines.Actions.{action_value}
use Rattle.vt_can.specs.lines.Readings.{ParsedLine}
use Rattle.vt_can.specs.lines.Line.{IsRead, comment, operator_action, no_action, no_time, no_shape, frame_line}
use Rattle.vt_can.proofs.lines.line.read_content.Goals as goal
use Rattle.vt_can.proofs.lines.line.read_content.Goals.{In-Some}

-- the text of an operator line after `! `
operator_rest : (c : In-Some) → c.args.content.now ≡ codes "! " ++ c.in-Some.rest.now
operator_rest c = strip_prefix_is Decides-eqb c.args.content.now (codes "! ") (Some c.in-Some.rest) c.in-Some.ensures.cases

pub returns-then-is_comment : goal.returns-then-is_comment
returns-then-is_comment c =
    comment (c.is_comment.ensures.0 c.if-is_comment.true)

pub returns-in_default-action : goal.returns-in_default-action
returns-in_default-action c =
    no_action c.in-Some.rest.now (operator_rest (goal.at.returns-in_default-action c).In-Some) c.in_default-action.ensures

pub returns-in-Some : goal.returns-in-Some
returns-in-Some c =
    operator_action c.in-Some.rest.now (action_value c.in-Some-action.action) (operator_rest (goal.at.returns-in-Some c).In-Some) c.in-Some-action.ensures

pub returns-in_default-time_of : goal.returns-in_default-time_of
returns-in_default-time_of c =
    let content = c.args.content.now in
    no_time (record {
      no_comment = iff_false c.is_comment.ensures c.if-is_comment.false;
      no_operator = strip_prefix_is Decides-eqb content (codes "! ") None c.in_default.ensures.cases;
    }) c.in_default-time_of.ensures

pub returns-in_default-shape_of : goal.returns-in_default-shape_of
returns-in_default-shape_of c =
    no_shape c.in-Some-time_of.time c.in-Some-time_of.rest.now c.in-Some-time_of.ensures c.in_default-shape_of.ensures

pub returns : goal.returns
returns c =
    let content = c.args.content.now in
    let read = frame_line c.in-Some-time_of.time c.in-Some-time_of.rest.now c.in-Some-shape_of.id.now c.in-Some-shape_of.text.now c.in-Some-time_of.ensures c.in-Some-shape_of.ensures in
    subst (λ (r : Result ParsedLine LineFault). IsRead content r) (sym c.read_frame_line.ensures) read
