use Rattle.std.proofs.Common.{◌≡◌, ◌++◌, drop}
use Rattle.log_answers.specs.Messages.{said_by}
use Rattle.log_answers.proofs.open.OpenQuestions.ask.Given as goal

abbrev pub invariant-loop-output : goal.invariant-loop-output
invariant-loop-output l =
    l.self.questions.items ++ said_by l.line l.time (drop l.output-index l.outputs) ≡ l.fn.self.questions.items ++ said_by l.line l.time l.outputs
