use Rattle.std.proofs.Common.{rules}
use Rattle.vt_recorded.specs.PlainForms.{word_length}
use Rattle.vt_recorded.proofs.words.word_length.Goals as goal

pub returns-clause-length : goal.returns-clause-length
unfolding word_length
returns-clause-length c = search rules
