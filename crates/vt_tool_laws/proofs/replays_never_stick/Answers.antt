use Rattle.vt_tool_laws.proofs.Keeping.{replay-keeps, start-in-force, stopped-keeps}
use Rattle.vt_tool_laws.proofs.replays_never_stick.Goals as goal

pub returns : goal.returns
returns c = record {
  start = start-in-force c.the_machine_never_sticks.ensures;
  replay = replay-keeps c.the_machine_never_sticks.ensures;
  stopped = stopped-keeps c.the_machine_never_sticks.ensures;
}
