use Rattle.std.proofs.Common.{◌≡◌, ◌≤◌, Option, ℕ, sym, subst, refl, arith}
use Rattle.serde_json.specs.Data.{Data, depth}
use Rattle.serde_json.specs.View.{view}
use Rattle.vt_server.specs.States.{state_of}
use Rattle.vt_service.specs.Answers.{answer_data}
use Rattle.vt_service.specs.Values.{number_or_null}
use Rattle.vt_service.proofs.Depths.{answer_depth, value_depth}
use Rattle.vt_service.proofs.service.answer.Goals as goal

pub push_line-requires : goal.push_line-requires
push_line-requires c =
    let deep = value_depth (state_of c.terminal.result.now) c.args.question.now (view c.in-Ok.value) c.in-Ok.ensures in
    subst (λ (d : Data). depth d ≤ 127) (sym c.in_ok-question_answer-in-Ok.ensures) (answer_depth c.args.number (view c.in-Ok.value) deep)
