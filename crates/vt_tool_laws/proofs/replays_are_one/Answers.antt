use Rattle.vt_tool_laws.proofs.OneReplay.{replays-one}
use Rattle.vt_tool_laws.proofs.replays_are_one.Goals as goal

pub returns : goal.returns
returns c = replays-one (record {
  read = c.readings_are_one.ensures;
  steps = c.steps_are_one.ensures;
  screens = c.screens_are_one.ensures;
  never = c.the_machine_never_sticks.ensures;
})
