use Rattle.vt_laws.proofs.lemmas.pools.PoolsInForce.{never-sticks}
use Rattle.vt_laws.proofs.the_machine_never_sticks.Goals as goal

pub returns : goal.returns
returns c = never-sticks (record {
  order = c.commands_keep_order.ensures;
  shapes = c.commands_keep_shapes.ensures;
  entries_order = c.entries_keep_order.ensures;
  entries_shapes = c.entries_keep_shapes.ensures;
  pools = c.pools_are_ready.ensures;
  runs = c.runs_end.ensures;
  turns = c.events_end_in_turn.ensures;
  nameless = c.null_is_no_object.ensures;
  drawings = c.drawings_never_stick.ensures;
  finds = c.drawings_find_all.ensures;
  paths = c.paths_are_chained.ensures;
})
