use Rattle.std.proofs.Common.{[], ◌∷◌, ◌∙◌, arith}
use Rattle.hex.proofs.HexLemmas.{decode_of-ok, decode_sized-twice}
use Rattle.vt_cli.proofs.values.address.Goals as goal

pub returns-in_err-address : goal.returns-in_err-address
returns-in_err-address c = rw c.from_residual.ensures (λ n given.
    let text = c.args.text.now in
    let digits = decode_of-ok text (n ∷ []) given.0 in
    let read = c.from_hex.ensures ∙ decode_sized-twice text 1 (omega (arith, digits.2)) ∙ given.0 in
    let ok = rw read at c.ok.ensures.value in
    let none = c.in_err-address.was in
    cc)
