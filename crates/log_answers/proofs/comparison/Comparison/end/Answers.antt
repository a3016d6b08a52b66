use Rattle.log_answers.proofs.Ended.{told-at_end}
use Rattle.log_answers.proofs.comparison.Comparison.end.Goals as goal

pub returns : goal.returns
returns c = told-at_end c.end.result c.args.self.now c.args.differences.now.items c.end.new.differences.items c.end.ensures.told
