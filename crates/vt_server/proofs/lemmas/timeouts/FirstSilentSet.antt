-- The state after a change of the sets alone, and the first silent set.
use Rattle.std.proofs.Common.{◌≡◌, ℕ, cond, List, [], ◌∷◌, Option, Some, refl, ap}
use Rattle.vt_names.specs.Registry.{Set}
use Rattle.vt_node.specs.Registries.{Watched}
use Rattle.vt_node.specs.Watches.{first_silent_of, heard_of}
use Rattle.vt_server.specs.frame.TimeoutActs.{first_silent, set_is_silent}
use Rattle.vt_server.specs.States.{state_of, places_by}
use Rattle.vt_server.specs.Terminals.{State}
use Rattle.vt_server.specs.state.PoolTables.{content_of}
use Rattle.vt_server.specs.declared.terminal.Terminal.{Terminal}

pub registry-state : (t : Terminal) (registry : Watched) → registry.watch ≡ t.registry.watch
    → state_of (record t { registry = registry }) ≡ record (state_of t) { sets = registry.sets }
registry-state t registry is = λ i. record (state_of t) { sets = registry.sets; places = places_by (content_of t.contents) t.node (heard_of (is i)) }

pub silent_of : (s : State) (sets : List Set) → first_silent_of s.now (λ a. (s.places a).heard) sets ≡ first_silent s sets
silent_of s [] = refl
silent_of s (set ∷ sets) = ap (λ (o : Option ℕ). cond (set_is_silent s set) (Some set.address) o) (silent_of s sets)
