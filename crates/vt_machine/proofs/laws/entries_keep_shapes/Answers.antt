use Rattle.std.proofs.Common.{refl}
use Rattle.vt_machine.specs.OperatorEntries.{with_number, with_text}
use Rattle.vt_machine.proofs.MacrosUnaffected.{numbers_plain, texts_plain, plain_shape}
use Rattle.vt_machine.proofs.laws.entries_keep_shapes.Goals as goal

pub returns : goal.returns
returns c = record {
  numbers = λ store at n. plain_shape store _ at (with_number n) refl (numbers_plain n);
  texts = λ store at text. plain_shape store _ at (with_text text) refl (texts_plain text);
}
