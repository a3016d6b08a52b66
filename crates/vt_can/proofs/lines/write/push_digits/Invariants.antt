use Rattle.std.proofs.Common.{◌≡◌, ◌+◌, ◌++◌, map, take, length}
use Rattle.std.specs.Char.{to_ascii_uppercase}
use Rattle.vt_can.proofs.lines.write.push_digits.Given as goal

abbrev pub invariant-loop-digit : goal.invariant-loop-digit
invariant-loop-digit l = record {
  written : l.text.items ≡ l.initial.text.items ++ map to_ascii_uppercase (take l.digit-index l.digit-items);
  counted : length l.text.items ≡ length l.initial.text.items + l.digit-index;
}
