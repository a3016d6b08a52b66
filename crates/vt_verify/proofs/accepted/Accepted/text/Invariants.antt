use Rattle.std.proofs.Common.{◌≡◌, ◌++◌, take, length}
use Rattle.std.specs.List.{flat_map}
use Rattle.vt_stores.specs.Shapes.{shape_of}
use Rattle.vt_verify.specs.TriggerGraphs.{listed_events}
use Rattle.vt_verify.specs.Reports.{count_line, event_line}
use Rattle.vt_verify.proofs.accepted.Accepted.text.Given as goal

abbrev pub invariant-loop-place : goal.invariant-loop-place
invariant-loop-place l =
    l.text.items ≡ count_line (length l.self) ++ flat_map (event_line (shape_of l.self)) (take l.place (listed_events (shape_of l.self)))
