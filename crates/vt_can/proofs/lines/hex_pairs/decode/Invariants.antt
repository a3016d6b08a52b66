use Rattle.vt_can.proofs.lemmas.lines.HexPairs.{ReadTo}
use Rattle.vt_can.proofs.lines.hex_pairs.decode.Given as goal

abbrev pub invariant-loop-i : goal.invariant-loop-i
invariant-loop-i l = ReadTo l.text l.bytes l.i l.seen
