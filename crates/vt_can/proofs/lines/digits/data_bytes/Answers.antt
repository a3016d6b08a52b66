use Rattle.std.proofs.Common.{sym, ◌∙◌, arith}
use Rattle.vt_can.proofs.lemmas.lines.Digits.{data-bad, data-long, data-odd}
use Rattle.vt_can.proofs.lines.digits.data_bytes.Goals as goal

pub returns-then-text-eq1 : goal.returns-then-text-eq1
returns-then-text-eq1 c = data-odd c.args.text.now c.if-text-eq1.true

pub returns-then-not-is_hex : goal.returns-then-not-is_hex
returns-then-not-is_hex c = data-bad c.args.text.now (sym c.is_hex.ensures ∙ c.if-not-is_hex.true)

pub returns-then-len-gt8 : goal.returns-then-len-gt8
returns-then-len-gt8 c =
    data-long c.args.text.now (omega arith) (sym c.is_hex.ensures ∙ c.if-not-is_hex.false) (omega arith)

pub returns-then-not-decode : goal.returns-then-not-decode
returns-then-not-decode c = data-bad c.args.text.now (sym c.decode.ensures.digits ∙ c.if-not-decode.true)

pub returns-in-None : goal.returns-in-None
returns-in-None c = data-bad c.args.text.now c.in-None.ensures
