use Rattle.std.proofs.Common.{◌≡◌, ◌++◌, map, length}
use Rattle.log_answers.specs.declared.difference.Difference.TheVariants.{OursAlone}
use Rattle.log_answers.proofs.open.OpenQuestions.end.Given as goal

abbrev pub invariant-loop-question : goal.invariant-loop-question
invariant-loop-question l =
    l.differences.items ++ map OursAlone l.self.questions.items ≡ l.fn.differences.items ++ map OursAlone l.fn.self.questions.items

abbrev pub decreases-loop-question : goal.decreases-loop-question
decreases-loop-question l = length l.self.questions.items
