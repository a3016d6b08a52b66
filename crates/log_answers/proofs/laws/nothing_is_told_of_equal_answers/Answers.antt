use Rattle.std.proofs.Common.{◌∙◌, sym, ap}
use Rattle.log_answers.specs.Messages.{on_topic}
use Rattle.log_answers.specs.Tellings.{differences_on}
use Rattle.log_answers.proofs.NothingTold.{answered-from_nothing, none-on_each_topic, nothing-from_answered}
use Rattle.log_answers.proofs.laws.nothing_is_told_of_equal_answers.Goals as goal

pub returns : goal.returns
returns c = λ own wait start lines differences are. (
  λ none topic. answered-from_nothing wait (on_topic topic are.questions) (on_topic topic are.answers) (sym (are.each topic) ∙ ap (differences_on topic) none),
  λ answered. none-on_each_topic differences (λ topic. are.each topic ∙ nothing-from_answered wait (on_topic topic are.questions) (on_topic topic are.answers) (answered topic)),
)
