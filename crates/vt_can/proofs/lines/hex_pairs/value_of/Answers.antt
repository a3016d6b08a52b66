use Rattle.std.proofs.Common.{arith}
use Rattle.vt_can.proofs.lemmas.lines.HexPairs.{table-at}
use Rattle.vt_can.proofs.lines.hex_pairs.value_of.Goals as goal

pub returns : goal.returns
returns c = rw c.from.ensures (table-at c.args.digit (omega arith))
