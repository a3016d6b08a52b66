use Rattle.std.proofs.Common.{length}
use Rattle.log_answers.proofs.Overdue.{IsExpiring}
use Rattle.log_answers.proofs.open.OpenQuestions.expire.Given as goal

abbrev pub invariant-loop-oldest : goal.invariant-loop-oldest
invariant-loop-oldest l =
    IsExpiring l.wait l.now l.fn.self.questions.items l.self.questions.items l.fn.differences.items l.differences.items

abbrev pub decreases-loop-oldest : goal.decreases-loop-oldest
decreases-loop-oldest l = length l.self.questions.items
