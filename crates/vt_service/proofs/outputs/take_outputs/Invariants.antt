use Rattle.std.proofs.Common.{◌≡◌, ◌++◌, ℕ, Some, map, length}
use Rattle.vt_session.specs.Sessions.{Stays, waiting}
use Rattle.vt_service.specs.Lines.{item_data, lines_data}
use Rattle.vt_service.proofs.outputs.take_outputs.Given as goal

abbrev pub invariant-loop-alloc : goal.invariant-loop-alloc
invariant-loop-alloc l = record {
  lines : lines_data l.lines.items ++ map (λ item. Some (item_data item)) (waiting l.session)
      ≡ lines_data l.fn.lines.items ++ map (λ item. Some (item_data item)) (waiting l.fn.session);
  stays : Stays l.fn.session l.session;
}

abbrev pub decreases-loop-alloc : goal.decreases-loop-alloc
decreases-loop-alloc l = length (waiting l.session)
