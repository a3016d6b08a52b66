use Rattle.log_answers.proofs.ComparedMessages.{all_compared}
use Rattle.log_answers.proofs.laws.each_message_is_compared.Goals as goal

pub returns : goal.returns
returns c = all_compared
