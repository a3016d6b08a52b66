use Rattle.std.proofs.Common.{◌≡◌, ◌-◌, ◌<◌, replicate, refl, arith, rules}
use Rattle.draw_svg.proofs.FilledRows.{fills_more, fills_rest, repeated, all_repeated, few_more}
use Rattle.draw_svg.proofs.raster.Raster.put.Goals as goal

pub loop-left-preserved : goal.loop-left-preserved
loop-left-preserved c =
    let l = c.loop-left in
    let part = c.in_ok-left.field-0 in
    let fits = c.in_ok-left.ensures.part in
    let some : 0 < l.left = search rules in
    record {
      most = omega (arith, l.invariant.most);
      filled = fills_more _ _ _ _ _ _ (repeated c.args.count l.left part (l.left - part) c.args.byte fits.1 l.invariant.most refl) l.invariant.filled c.in_ok-left.ensures.filled;
      few = few_more c.args.self.now l.self c.put_in_row.new.self l.left part some l.invariant.few c.in_ok-left.ensures.one c.in_ok-left.ensures.rows;
    }

pub returns-else-self-clause-filled : goal.returns-else-self-clause-filled
returns-else-self-clause-filled c =
    let l = c.loop-left in
    let last : l.self.row ≡ l.self.height = search rules in
    fills_rest _ _ _ (replicate l.left c.args.byte) _ (all_repeated c.args.count l.left c.args.byte l.invariant.most) l.invariant.filled last
