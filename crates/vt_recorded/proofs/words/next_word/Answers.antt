use Rattle.std.proofs.Common.{rules}
use Rattle.vt_recorded.proofs.FrameForms.{word_is, after_word_is}
use Rattle.vt_recorded.proofs.words.next_word.Goals as goal

pub returns-clause-word : goal.returns-clause-word
returns-clause-word c = search (rules, word_is)

pub returns-clause-rest : goal.returns-clause-rest
returns-clause-rest c = search (rules, after_word_is)
