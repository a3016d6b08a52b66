use Rattle.std.proofs.Common.{◌≡◌, ◌++◌, ◌∷◌, drop, get_or, length, replicate, refl, sym, ap, ◌∙◌, arith, rules}
use Rattle.std.proofs.lemmas.List.{append_assoc, length-drop}
use Rattle.draw_svg.specs.FilledRows.{Fills}
use Rattle.draw_svg.specs.Rasters.{unpacked}
use Rattle.draw_svg.proofs.FilledRows.{fills_more, rest_is, two_front}
use Rattle.draw_svg.proofs.raster.Raster.put_pairs.Goals as goal

pub loop-rest-preserved : goal.loop-rest-preserved
loop-rest-preserved c =
    let l = c.loop-rest in
    let rest = l.rest.now in
    let count = get_or rest 0 0 in
    let byte = get_or rest 1 0 in
    let shape : rest ≡ count ∷ byte ∷ drop 2 rest = two_front rest c.in-len2-up.len_at_least in
    let filled : Fills l.self c.put.new.self (replicate count byte) = search rules in
    let long = length-drop 2 rest in
    let after = rest_is 2 rest in
    let short = ap length after in
    record {
      done = l.invariant.done ++ replicate count byte;
      parts = l.invariant.parts ∙ ap (λ r. l.invariant.done ++ unpacked r) shape
          ∙ sym (append_assoc l.invariant.done (replicate count byte) (unpacked (drop 2 rest)))
          ∙ ap (λ r. (l.invariant.done ++ replicate count byte) ++ unpacked r) (sym after);
      filled = fills_more _ _ _ _ _ _ refl l.invariant.filled filled;
      most = omega (arith, short, l.invariant.most);
      few = omega (arith, short, l.invariant.few, l.invariant.most, c.in_ok-put.ensures.few, c.in-len2-up.len_at_least);
    }
