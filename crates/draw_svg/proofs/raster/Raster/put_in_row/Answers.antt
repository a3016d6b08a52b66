use Rattle.std.proofs.Common.{◌≡◌, ◌+◌, ◌*◌, ◌<◌, ◌≤◌, [], ◌∷◌, ◌++◌, refl, rules}
use Rattle.draw_svg.specs.declared.run.Run.{Run}
use Rattle.draw_svg.proofs.FilledRows.{fills_part}
use Rattle.draw_svg.proofs.raster.Raster.put_in_row.Goals as goal

pub returns-clause-filled : goal.returns-clause-filled
returns-clause-filled c =
    let old = c.args.self.now in
    let new = c.pass.new.self in
    let part = c.from-2.result in
    let byte = c.args.byte in
    let run : Run = record { row = old.row; start = old.first; count = part; byte = byte } in
    let kept = c.pass.ensures.kept in
    let made : new.runs.items ≡ old.runs.items ++ run ∷ [] = search rules in
    let moved : new.row * new.size + new.first ≡ old.row * old.size + old.first + part = search rules in
    let some : 0 < part = search rules in
    let fits : old.first + part ≤ old.size = search rules in
    record {
      same = kept.1;
      filled = λ bytes is. fills_part old new part byte bytes is kept.1 run c.requires.row some fits refl refl refl refl made moved;
    }
