use Rattle.vt_can.proofs.lemmas.lines.HexLanes.{values_are}
use Rattle.vt_can.proofs.lines.hex_pairs.values_of.Goals as goal

pub returns : goal.returns
returns g c = values_are g.row.N c.args.digits c.fits-digits.0 c.fits-digits.1
