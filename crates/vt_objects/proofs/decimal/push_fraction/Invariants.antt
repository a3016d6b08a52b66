use Rattle.std.proofs.Common.{◌≡◌, ◌≤◌, ◌+◌, ◌-◌, ◌++◌, replicate, length}
use Rattle.vt_objects.proofs.decimal.push_fraction.Given as goal

abbrev pub invariant-loop : goal.invariant-loop
invariant-loop l = record {
  begun : length l.digits ≤ l.counter;
  zeros : l.text.bytes ≡ l.initial.text.bytes ++ replicate (l.counter - length l.digits) 48;
  counted : length l.text.bytes + length l.digits ≡ length l.initial.text.bytes + l.counter;
}
