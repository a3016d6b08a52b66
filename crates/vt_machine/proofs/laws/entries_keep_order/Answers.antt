use Rattle.vt_machine.specs.OperatorEntries.{with_number, with_text}
use Rattle.vt_machine.proofs.MacrosUnaffected.{numbers_plain, texts_plain, plain_sound}
use Rattle.vt_machine.proofs.laws.entries_keep_order.Goals as goal

pub returns : goal.returns
returns c = record {
  numbers = λ store at n sound. plain_sound store at (with_number n) (numbers_plain n) sound;
  texts = λ store at text sound. plain_sound store at (with_text text) (texts_plain text) sound;
}
