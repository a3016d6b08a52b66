use Rattle.std.proofs.Common.{◌∙◌, arith}
use Rattle.hex.proofs.HexLemmas.{decode_of-ok, decode_sized-twice}
use Rattle.vt_program.proofs.options.name.Goals as goal

pub returns-in_err-bytes : goal.returns-in_err-bytes
returns-in_err-bytes c = rw c.from_residual.ensures (λ n given.
    let text = c.args.text.now in
    let digits = decode_of-ok text given.bytes given.digits in
    let read = c.from_hex.ensures ∙ decode_sized-twice text 8 (omega (arith, digits.2, given.long)) ∙ given.digits in
    let ok = rw read at c.ok.ensures.value in
    let none = c.in_err-bytes.was in
    cc)
