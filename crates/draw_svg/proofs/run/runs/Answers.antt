use Rattle.std.proofs.Common.{◌≡◌, ◌+◌, ◌≤◌, [], Some, length, sym, subst, rules}
use Rattle.vt_kinds.specs.Records.{seen_picture}
use Rattle.draw_svg.specs.Formats.{format_of, bytes_in_row}
use Rattle.draw_svg.specs.FilledRows.{IsFilled, Fills}
use Rattle.draw_svg.specs.Rasters.{unpacked, image_data}
use Rattle.draw_svg.proofs.Places.{few_runs}
use Rattle.draw_svg.proofs.run.runs.Goals as goal
use Rattle.draw_svg.proofs.run.runs.Goals.{then-is_packed+in_ok-put_pairs, else-is_packed+in_ok-put_bytes}

pub returns-clause-few : goal.returns-clause-few
returns-clause-few c =
    let p = seen_picture c.args.picture.now in
    let format = c.in-Some.format in
    let r = c.if-is_packed.raster in
    let known : format_of p.format ≡ Some format = search rules in
    let size : r.size ≡ bytes_in_row format p.actual_width = search rules in
    let height : r.height ≤ p.actual_height = search rules in
    let filled : IsFilled r (image_data p) = elim c.if-is_packed.branch as (λ _. IsFilled r (image_data p)) [
      | then-is_packed+in_ok-put_pairs w ↦
          let packed : image_data p ≡ unpacked p.bytes = search rules in
          let fills : Fills c.new-raster.result r (unpacked p.bytes) = search rules in
          subst (IsFilled r) (sym packed) (fills.filled [] c.new-raster.ensures.empty)
      | else-is_packed+in_ok-put_bytes w ↦
          let plain : image_data p ≡ p.bytes = search rules in
          let fills : Fills c.new-raster.result r p.bytes = search rules in
          subst (IsFilled r) (sym plain) (fills.filled [] c.new-raster.ensures.empty)
    ] in
    let few : length r.runs.items ≤ length p.bytes + r.row = search rules in
    let all = few_runs p format r known size height filled r.most few in
    search rules
