use Rattle.std.proofs.Common.{rules, arith}
use Rattle.std.proofs.lemmas.Grind.{common_steps}
use Rattle.vt_recorded.specs.PlainForms.{pairs}
use Rattle.vt_recorded.proofs.FrameForms.{more_pairs, no_pairs}
use Rattle.vt_recorded.proofs.plain.+put_pairs.Goals as goal

pub returns-then-most-eq0 : goal.returns-then-most-eq0
unfolding pairs
returns-then-most-eq0 c = search rules

pub returns-then-not-is_pair : goal.returns-then-not-is_pair
returns-then-not-is_pair c = λ c. grind (arith, common_steps, no_pairs c.args.most c.args.text.now)

pub returns : goal.returns
returns c = λ c. grind (arith, common_steps, more_pairs c.args.most c.args.text.now)
