use Rattle.std.proofs.Common.{sym, refl, ◌∙◌, arith}
use Rattle.vt_can.proofs.lemmas.lines.HexLanes.{all_digits, are_values, lanes_decoded, mask_made, no_digits, eight_are, eight}
use Rattle.vt_can.proofs.lines.hex_pairs.decode_sixteen.Goals as goal

pub returns-then-digits-ne65535 : goal.returns-then-digits-ne65535
returns-then-digits-ne65535 c =
    let text = c.args.text.now in
    let values = c.values_of-values.result in
    let is = are_values 16 text values c.requires c.values_of-values.ensures in
    no_digits 16 65535 text values is refl (λ full. c.if-digits-ne65535.true (mask_made 16 values is.wide (omega arith) ∙ full))

pub returns : goal.returns
returns c =
    let text = c.args.text.now in
    let values = c.values_of-values.result in
    let is = are_values 16 text values c.requires c.values_of-values.ensures in
    let digits = all_digits 16 65535 text values is refl (sym (mask_made 16 values is.wide (omega arith)) ∙ c.if-digits-ne65535.false) in
    (digits, lanes_decoded 16 text values (eight values) is refl (eight_are values is.wide) digits)
