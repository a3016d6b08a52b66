use Rattle.std.proofs.Common.{◌≡◌, ◌∙◌, ◌+◌, ◌<◌, List, ◌∷◌, slice_index_or, ap, arith}
use Rattle.log_answers.specs.declared.said.Said.{Said}
use Rattle.log_answers.proofs.Overdue.{one_expired}
use Rattle.log_answers.proofs.open.OpenQuestions.expire.Goals as goal

pub loop-oldest-preserved-in-Continue-1 : goal.loop-oldest-preserved-in-Continue-1
loop-oldest-preserved-in-Continue-1 c =
    let question = c.in-Some-pop_front.question in
    let new = c.pop_front.new.self.items in
    let front : c.loop-oldest.self.questions.items ≡ question ∷ new = c.in-Some-pop_front.ensures.items in
    let oldest : c.in-Some.oldest.now ≡ question = c.in-Some.ensures.lookup ∙ ap (λ (xs : List Said). slice_index_or xs 0 c.in-Some.oldest.now) front in
    let time = ap (λ (q : Said). q.time) oldest in
    let less = c.saturating_sub.ensures in
    let overdue : question.time + c.args.wait < c.args.now = omega (arith, time, less) in
    one_expired c.args.wait c.args.now c.args.self.now.questions.items c.loop-oldest.self.questions.items new question c.args.differences.now.items c.loop-oldest.differences.items c.push.new.self.items
    c.loop-oldest.invariant front overdue c.in_ok-push.ensures.items
