use Rattle.std.proofs.Common.{◌*◌}
use Rattle.vt_host_events.specs.Events.{sound_events}
use Rattle.vt_host_events.proofs.Written.{IsWriting}
use Rattle.vt_server.specs.Outputs.{UsesAtMost}
use Rattle.vt_server.specs.States.{state_of}
use Rattle.vt_host_events.proofs.sounds.tell_sounds.Given as goal

abbrev pub invariant-loop-set : goal.invariant-loop-set
invariant-loop-set l = record {
  written : IsWriting (sound_events (state_of l.after)) l.sets l.set-index l.events.items l.fn.events.items;
  room : UsesAtMost (2 * l.set-index) l.fn.events l.events;
}
