use Rattle.std.proofs.Common.{◌≡◌, map, take}
use Rattle.vt_names.specs.Registry.{Set}
use Rattle.vt_host_events.specs.Seen.{set_seen}
use Rattle.vt_server.specs.States.{state_of}
use Rattle.vt_host_events.proofs.observer.look_at_sets.Given as goal

abbrev pub invariant-loop-index : goal.invariant-loop-index
invariant-loop-index l = l.sets.items ≡ map (λ (set : Set). set_seen (state_of l.terminal) l.time set.address) (take l.index (state_of l.terminal).sets)
