use Rattle.vt_server.specs.States.{state_of}
use Rattle.vt_session.specs.Readings.{set_bytes}
use Rattle.vt_session.proofs.Written.{IsWriting}
use Rattle.vt_session.proofs.reading.write_sets.Given as goal

abbrev pub invariant-loop-index : goal.invariant-loop-index
invariant-loop-index l = IsWriting (set_bytes (state_of l.terminal)) (state_of l.terminal).sets l.index l.text.items l.fn.text.items
