use Rattle.std.proofs.Common.{arith}
use Rattle.vt_can.proofs.lemmas.lines.HexPairs.{read-all, read-more, read-whole}
use Rattle.vt_can.proofs.lines.hex_pairs.decode.Goals as goal

pub loop-i-preserved : goal.loop-i-preserved
loop-i-preserved c =
    read-more c.args.text.now c.loop-i.bytes c.loop-i.i c.loop-i.seen c.value_of-high.result c.value_of-low.result (omega arith) (omega arith) c.value_of-high.ensures c.value_of-low.ensures c.loop-i.invariant

pub returns : goal.returns
returns c = record {
  digits = read-all c.args.text.now c.loop-i.bytes c.loop-i.i c.loop-i.seen (omega arith) (omega arith) c.loop-i.invariant;
  decoded = read-whole c.args.text.now c.loop-i.bytes c.loop-i.i c.loop-i.seen (omega arith) (omega arith) c.loop-i.invariant;
}
