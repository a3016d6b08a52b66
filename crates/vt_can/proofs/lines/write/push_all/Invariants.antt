use Rattle.std.proofs.Common.{◌≡◌, ◌+◌, ◌++◌, take, length}
use Rattle.vt_can.proofs.lines.write.push_all.Given as goal

abbrev pub invariant-loop-byte : goal.invariant-loop-byte
invariant-loop-byte l = record {
  written : l.text.items ≡ l.initial.text.items ++ take l.byte-index l.bytes;
  counted : length l.text.items ≡ length l.initial.text.items + l.byte-index;
}
