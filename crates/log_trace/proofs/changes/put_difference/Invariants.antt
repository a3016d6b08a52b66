use Rattle.std.proofs.Common.{map}
use Rattle.log_trace.proofs.Differences.{HasCome}
use Rattle.log_trace.proofs.ScreenLines.{line_of}
use Rattle.log_trace.proofs.changes.put_difference.Given as goal

abbrev pub invariant-loop-place : goal.invariant-loop-place
invariant-loop-place l = HasCome (map line_of l.old) (map line_of l.new) l.initial.text.items l.gone l.come l.place l.text.items
