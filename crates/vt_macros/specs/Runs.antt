-- All runs of events end within their budgets (docs/PROFILE.md, "Steps", "Costs and budgets").
use Rattle.std.specs.Prelude.{◌≡◌, ◌≤◌, ◌+◌, ◌++◌, ℕ, List, [], ◌∷◌, None}
use Rattle.std.specs.FinMap as finite
use Rattle.vt_kinds.specs.Ids.{null_id}
use Rattle.vt_commands.specs.declared.command.Command.{Command}
use Rattle.vt_commands.specs.declared.raising.Raised.{Raised}
use Rattle.vt_stores.specs.Stores.{ObjectMap, Objects, AreStored, map_of}
use Rattle.vt_stores.specs.Shapes.{shape_of}
use Rattle.vt_verify.specs.Budgets.{MacroCostsAreTotals}
use Rattle.vt_verify.specs.Triggers.{listing_of}
use Rattle.vt_verify.specs.Rules.{IsAcceptable, working_sets}
use Rattle.vt_chains.specs.Limits.{terminal}
use Rattle.vt_macros.specs.Machines.{End, Ended, event_commands, run, total_budget, run_of}
use Rattle.vt_effects.specs.Soundness.{shape_in}
use Rattle.vt_effects.specs.Soundness.{IsSound}

-- A run of at most `steps` steps ends without getting stuck. The store still has one working set, its references and
-- chains are in order, and its shape is unchanged: kinds, macro entries and macro bytes.
pub record Ends (store : ObjectMap) (steps : ℕ) (end : End) : Type 0 where
  pub new : ObjectMap
  pub left : ℕ
  pub ended : end ≡ Ended new left
  pub within : left ≤ steps
  pub working_set : working_sets (shape_in new) ≡ 1
  pub sound : IsSound new
  pub shape : shape_in new ≡ shape_in store

-- On a store of an acceptable pool, the run of any events ends within their budgets: each command of their macros finds
-- its objects, of allowed kinds.
abbrev pub RunsEnd : Type 0
RunsEnd = (pool : Objects) (store : ObjectMap) (raised : List Raised) → IsAcceptable terminal pool → MacroCostsAreTotals (shape_of pool)
    → shape_in store ≡ shape_of pool → IsSound store → Ends store (total_budget (shape_in store) raised) (run_of store raised)

-- Events in turn: each begins on the store after the former ones, with its own budget of steps, and ends.
abbrev pub EndInTurn : ObjectMap → List Raised → ObjectMap → Type 0
EndInTurn store [] new = new ≡ store
EndInTurn store (r ∷ raised) new =
    (own : Ends store (total_budget (shape_in store) (r ∷ [])) (run_of store (r ∷ []))) × EndInTurn own.new raised new

-- A run of events leaves the store that they leave in turn, each within its own budget.
abbrev pub EventsEndInTurn : Type 0
EventsEndInTurn = (pool : Objects) (store new : ObjectMap) (left : ℕ) (raised : List Raised) → IsAcceptable terminal pool → MacroCostsAreTotals (shape_of pool)
    → shape_in store ≡ shape_of pool → IsSound store → run_of store raised ≡ Ended new left → EndInTurn store raised new

-- An event before pending commands ends within its own budget of steps. The pending commands then run on its store, with
-- the remaining steps.
pub record EndsBefore (store : ObjectMap) (r : Raised) (pending : List Command) (more : ℕ) : Type 0 where
  pub own : Ends store (total_budget (shape_in store) (r ∷ [])) (run_of store (r ∷ []))
  pub goes_on : run (total_budget (shape_in store) (r ∷ []) + more) store (event_commands (shape_in store) (listing_of r) ++ pending) ≡ run (own.left + more) own.new pending

-- Every event raised before pending commands ends within its own budget, also one raised by a command of a macro: the
-- store is in order then too, by the laws `commands_keep_order` and `commands_keep_shapes` of vt_effects.
abbrev pub EventsEndBeforePending : Type 0
EventsEndBeforePending = (pool : Objects) (store : ObjectMap) (r : Raised) (pending : List Command) (more : ℕ) → IsAcceptable terminal pool
    → MacroCostsAreTotals (shape_of pool) → shape_in store ≡ shape_of pool → IsSound store → EndsBefore store r pending more

-- The store of an acceptable pool has one working set, and its references and chains are in order.
pub record IsReady (pool : Objects) (store : ObjectMap) : Type 0 where
  pub working_set : working_sets (shape_in store) ≡ 1
  pub sound : IsSound store
  pub shape : shape_in store ≡ shape_of pool

abbrev pub PoolsAreReady : Type 0
PoolsAreReady = (pool : Objects) → AreStored pool → IsAcceptable terminal pool → IsReady pool (map_of pool)

-- A store of an acceptable pool has no object with the ID NULL.
abbrev pub NullIsNoObject : Type 0
NullIsNoObject = (pool : Objects) (store : ObjectMap) → AreStored pool → IsReady pool store → finite.get store null_id ≡ None
