use Rattle.std.proofs.Common.{sym, refl, ◌∙◌, arith}
use Rattle.vt_can.proofs.lemmas.lines.HexLanes.{all_digits, are_values, lanes_decoded, mask_made, no_digits, four_are, four}
use Rattle.vt_can.proofs.lines.hex_pairs.decode_eight.Goals as goal

pub returns-then-digits-ne255 : goal.returns-then-digits-ne255
returns-then-digits-ne255 c =
    let text = c.args.text.now in
    let values = c.values_of-values.result in
    let is = are_values 8 text values c.requires c.values_of-values.ensures in
    no_digits 8 255 text values is refl (λ full. c.if-digits-ne255.true (mask_made 8 values is.wide (omega arith) ∙ full))

pub returns : goal.returns
returns c =
    let text = c.args.text.now in
    let values = c.values_of-values.result in
    let is = are_values 8 text values c.requires c.values_of-values.ensures in
    let digits = all_digits 8 255 text values is refl (sym (mask_made 8 values is.wide (omega arith)) ∙ c.if-digits-ne255.false) in
    (digits, lanes_decoded 8 text values (four values) is refl (four_are values is.wide) digits)
