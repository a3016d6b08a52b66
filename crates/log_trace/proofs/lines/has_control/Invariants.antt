use Rattle.std.proofs.Common.{◌≡◌, take}
use Rattle.std.specs.List.{list_any}
use Rattle.log_trace.specs.Lines.{is_control}
use Rattle.log_trace.proofs.lines.has_control.Given as goal

abbrev pub invariant-loop-byte : goal.invariant-loop-byte
invariant-loop-byte l = l.has_control ≡ list_any is_control (take l.byte-index l.shown)
