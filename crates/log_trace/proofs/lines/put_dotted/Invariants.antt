use Rattle.std.proofs.Common.{◌≡◌, ◌++◌, take}
use Rattle.log_trace.specs.Lines.{dotted}
use Rattle.log_trace.proofs.lines.put_dotted.Given as goal

abbrev pub invariant-loop-byte : goal.invariant-loop-byte
invariant-loop-byte l = l.text.items ≡ l.initial.text.items ++ dotted (take l.byte-index l.shown)
