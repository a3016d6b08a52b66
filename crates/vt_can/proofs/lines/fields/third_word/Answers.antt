use Rattle.std.proofs.Common.{inl, inr}
use Rattle.std.proofs.lemmas.Bool.{iff_false}
use Rattle.vt_can.proofs.lemmas.lines.UniqueSplit.{third_word-none}
use Rattle.vt_can.proofs.lines.fields.third_word.Goals as goal

pub returns-then-not-is_letter : goal.returns-then-not-is_letter
returns-then-not-is_letter c =
    let none = iff_false c.is_letter.ensures c.if-not-is_letter.true in
    third_word-none c.args.text.now c.in-Some.word.now c.in-Some.suffix.now c.in-Some.ensures (λ e. none (inl e)) (λ e. none (inr e))
