use Rattle.std.proofs.Common.{◌≡◌, ◌≤◌, take}
use Rattle.check_text.specs.Severities.{errors_among}
use Rattle.check_text.proofs.summary.count_errors.Given as goal

abbrev pub invariant-loop-item : goal.invariant-loop-item
invariant-loop-item l = record {
  counted : l.errors ≡ errors_among (take l.item-index l.items);
  few : l.errors ≤ l.item-index;
}
