use Rattle.std.proofs.Common.{rules}
use Rattle.vt_recorded.specs.PlainForms.{word_start}
use Rattle.vt_recorded.proofs.words.word_start.Goals as goal

pub returns-clause-start : goal.returns-clause-start
unfolding word_start
returns-clause-start c = search rules
