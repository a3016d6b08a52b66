-- The event machine: the events that commands raise, and the run of their macros (docs/PROFILE.md, "Runs", "Steps").
use Rattle.std.specs.Prelude.{ℕ, zero, suc, ◌==◌, if◌then◌else◌, sum_by, List, [], ◌∷◌, ◌++◌, Option, Some, None, is_ok}
use Rattle.std.specs.List.{list_all, flat_map}
use Rattle.std.specs.FinMap as finite
use Rattle.vt_kinds.specs.declared.object.Object.TheVariants as objects
use Rattle.vt_commands.specs.declared.command.Command.{Command}
use Rattle.vt_commands.specs.declared.command.Command.TheVariants.{ChangeActiveMask}
use Rattle.vt_commands.specs.declared.event.Event.TheVariants as events
use Rattle.vt_commands.specs.declared.raising.Raised.{Raised}
use Rattle.vt_commands.specs.Events.{raise, row_events}
use Rattle.vt_kinds.specs.Ids.{null_id}
use Rattle.vt_kinds.specs.Records.{Seen}
use Rattle.vt_stores.specs.Stores.{ObjectMap}
use Rattle.vt_verify.specs.declared.listing.Listing.{Listing}
use Rattle.vt_stores.specs.Shapes.{Shape}
use Rattle.vt_verify.specs.Macros.{commands}
use Rattle.vt_verify.specs.References.{is_there, fits}
use Rattle.vt_verify.specs.Targets.{target_references}
use Rattle.vt_verify.specs.Triggers.{listed, listing_of}
use Rattle.vt_verify.specs.Budgets.{budget}
use Rattle.vt_effects.specs.Effects.{effect, after}
use Rattle.vt_effects.specs.Soundness.{shape_in}

-- ---- the events that a command raises

-- the active mask of a working set; NULL for other objects
abbrev pub mask_of : Option Seen → ℕ
mask_of (Some (objects.WorkingSet o)) = o.active_mask
mask_of _ = null_id

-- the Hide event of the former active mask; none for NULL
abbrev pub hide : ℕ → List Raised
hide mask = if mask == null_id then [] else raise mask events.Hide ∷ []

-- a mask that is active already is neither hidden nor shown
abbrev pub mask_events : ℕ → ℕ → ℕ → List Raised
mask_events old set mask =
    if old == mask then raise set events.ActiveMask ∷ [] else hide old ++ row_events (ChangeActiveMask set mask)

abbrev pub events_of : ObjectMap → Command → List Raised
events_of store (ChangeActiveMask set mask) = mask_events (mask_of (finite.get store set)) set mask
events_of store command = row_events command

-- a refused command raises nothing
unfoldable pub raised : ObjectMap → Command → List Raised
raised store command = if is_ok (effect store command) then events_of store command else []

-- ---- the machine

-- the commands of the macros that run at an event, in the order of its list
unfoldable pub event_commands : Shape → Listing → List Command
event_commands shape event = flat_map (commands shape) (listed shape event)

abbrev pub joined_all : Shape → List Raised → List Command
joined_all shape raised = flat_map (λ r. event_commands shape (listing_of r)) raised

-- the reasons why the machine is stuck
pub data Stuck : Type 0 where
  Missing : Stuck
  Kind : Stuck
  Spent : Stuck

-- the fault of a command with a missing object or an object of a kind that is not allowed, or None
unfoldable pub fault : Shape → Command → Option Stuck
fault shape command =
    if list_all (is_there shape) (target_references shape 0 command)
    then (if list_all (fits shape) (target_references shape 0 command) then None else Some Kind)
    else Some Missing

-- the end of a run: a store and the remaining steps, or stuck
pub data End : Type 0 where
  Ended : (store : ObjectMap) (left : ℕ) → End
  Sticks : (why : Stuck) (store : ObjectMap) → End

-- the objects after a run; runs on the objects of an accepted pool never stick
abbrev pub store_of : End → ObjectMap
store_of (Ended store left) = store
store_of (Sticks why store) = store

abbrev pub or_sticks : Option Stuck → ObjectMap → End → End
or_sticks (Some why) store next = Sticks why store
or_sticks None store next = next

-- the commands that a command triggers, which run before the pending commands
unfoldable pub follow_ups : ObjectMap → Command → List Command
follow_ups store command = joined_all (shape_in (after store command)) (raised store command)

-- Each step runs the first pending command. Without remaining steps the machine is stuck.
unfoldable pub run : ℕ → ObjectMap → List Command → End
run left store [] = Ended store left
run zero store (command ∷ pending) = or_sticks (fault (shape_in store) command) store (Sticks Spent store)
run (suc left) store (command ∷ pending) =
    or_sticks (fault (shape_in store) command) store (run left (after store command) (follow_ups store command ++ pending))

-- ---- runs

abbrev pub total_budget : Shape → List Raised → ℕ
total_budget shape raised = sum_by (λ r. budget shape (listing_of r).id (listing_of r).event) raised

-- A run of events begins with the commands that they trigger and the sum of their budgets.
abbrev pub run_of : ObjectMap → List Raised → End
run_of store raised = run (total_budget (shape_in store) raised) store (joined_all (shape_in store) raised)
