use Rattle.std.proofs.Common.{◌∙◌, sym, arith, rules}
use Rattle.log_answers.proofs.Oldest.{none_on, taken_at}
use Rattle.log_answers.proofs.open.OpenQuestions.take_oldest.Goals as goal

pub returns-in-Some : goal.returns-in-Some
returns-in-Some c =
    let len = c.args.self.now.questions.ok.0 in
    taken_at c.args.topic c.args.self.now.questions.items c.remove.new.self.items c.in-Some.place c.remove.result (sym c.place_of_oldest.ensures ∙ c.in-Some.is)
    (λ within. c.remove.ensures.variant.1 (omega (arith, within, len))) c.remove.ensures.value c.remove.ensures.items

pub returns-in-None : goal.returns-in-None
returns-in-None c = (none_on c.args.topic c.args.self.now.questions.items (sym c.place_of_oldest.ensures ∙ c.in-None.is), search rules)
