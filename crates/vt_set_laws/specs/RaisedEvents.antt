-- The tables of the events that an action of the operator and a command raise (docs/PROFILE.md, "Event numbers", "Press", "Release",
-- "Select", "Number", "Text", "Commands: all rows"), and the law that these and no others are raised.
use Rattle.std.specs.Prelude.{◌≡◌, ◌≢◌, ◌==◌, ℕ, Bool, if◌then◌else◌, List, [], ◌∷◌, Option, Some, None, Result, Ok, Err}
use Rattle.std.specs.FinMap as finite
use Rattle.vt_kinds.specs.declared.masks.WorkingSet.{WorkingSet}
use Rattle.vt_kinds.specs.declared.object.Object.TheVariants as objects
use Rattle.vt_kinds.specs.Ids.{null_id}
use Rattle.vt_stores.specs.Stores.{ObjectMap}
use Rattle.vt_commands.specs.declared.command.Command.{Command}
use Rattle.vt_commands.specs.declared.command.Command.TheVariants.{HideShow, EnableDisable}
use Rattle.vt_commands.specs.declared.raising.Raised.{Raised}
use Rattle.vt_commands.specs.Events.{event_at}
use Rattle.vt_commands.specs.Commands.{function_of}
use Rattle.vt_commands.specs.Targets.{object_of}
use Rattle.vt_effects.specs.Effects.{effect}
use Rattle.vt_effects.specs.Soundness.{IsSound}
use Rattle.vt_macros.specs.Machines as machines
use Rattle.vt_machine.specs.SetStates.{SetState}
use Rattle.vt_machine.specs.OperatorActions as operator
use Rattle.vt_machine.specs.OperatorActions.{Acts}
use Rattle.vt_machine.specs.OperatorEntries.{enter_number, enter_text}
use Rattle.vt_set_laws.specs.NewValues.{IsCounted}

-- ---- the tables

-- The object of an event: the one that the operator acts on or that the command names first; the input that was selected before; the
-- mask that was active before; the mask that is active now.
pub data Whose : Type 0 where
  Own : Whose
  FormerInput : Whose
  FormerMask : Whose
  PresentMask : Whose

-- The cause of an event: the action alone; that the object was not the selected input; that the stored value is another than before;
-- that the active mask is another than before; that the command's state is 1, or 0.
pub data Cause : Type 0 where
  Always : Cause
  OtherInput : Cause
  OtherValue : Cause
  OtherMask : Cause
  StateOne : Cause
  StateZero : Cause

-- an event by its number, whose it is, and its cause
pub record EventRow : Type 0 where
  pub event : ℕ
  pub whose : Whose
  pub cause : Cause

abbrev pub row : ℕ → Whose → Cause → EventRow
row event whose cause = record { event = event; whose = whose; cause = cause }

-- a key or a button is pressed
abbrev pub pressed : List EventRow
pressed = row 24 Own Always ∷ []

-- a key or a button is released
abbrev pub released : List EventRow
released = row 25 Own Always ∷ []

-- an input is selected
abbrev pub selected : List EventRow
selected = row 20 FormerInput OtherInput ∷ row 19 Own OtherInput ∷ []

-- a number or a text is entered
abbrev pub entered : List EventRow
entered = row 22 Own Always ∷ row 23 Own OtherValue ∷ row 16 Own OtherValue ∷ []

-- the events of commands, by their functions; the functions that are left out have none
abbrev pub commands_done : List (ℕ × List EventRow)
commands_done =
    (0xA0, row 3 Own StateOne ∷ row 4 Own StateZero ∷ [])
    ∷ (0xA1, row 5 Own StateOne ∷ row 6 Own StateZero ∷ [])
    ∷ (0xA5, row 14 Own Always ∷ [])
    ∷ (0xA6, row 15 Own Always ∷ [])
    ∷ (0xA7, row 10 Own Always ∷ [])
    ∷ (0xA8, row 16 Own Always ∷ [])
    ∷ (0xA9, row 18 Own Always ∷ [])
    ∷ (0xAA, row 11 Own Always ∷ [])
    ∷ (0xAB, row 12 Own Always ∷ [])
    ∷ (0xAC, row 13 Own Always ∷ [])
    ∷ (0xAD, row 4 FormerMask OtherMask ∷ row 7 Own Always ∷ row 3 PresentMask OtherMask ∷ [])
    ∷ (0xAE, row 8 Own Always ∷ [])
    ∷ (0xAF, row 9 Own Always ∷ [])
    ∷ (0xB0, row 17 Own Always ∷ [])
    ∷ (0xB3, row 16 Own Always ∷ [])
    ∷ (0xB4, row 26 Own Always ∷ [])
    ∷ (0xBE, row 0 Own Always ∷ [])
    ∷ []

abbrev pub rows_at : List (ℕ × List EventRow) → ℕ → List EventRow
rows_at [] function = []
rows_at (entry ∷ entries) function = if function == entry.0 then entry.1 else rows_at entries function

-- ---- how the tables are read

-- The object acted on, the input selected before an action, the state in a command, and the objects before and after. No macro has run.
pub record Scene : Type 0 where
  pub object : ℕ
  pub input : Option ℕ
  pub state : Option ℕ
  pub before : ObjectMap
  pub after : ObjectMap

-- the active mask of a Working Set, if it has one
pub record IsActive (store : ObjectMap) (set mask : ℕ) : Type 0 where
  pub working_set : WorkingSet
  pub is_there : finite.get store set ≡ Some (objects.WorkingSet working_set)
  pub active : working_set.active_mask ≡ mask
  pub not_null : mask ≢ null_id

abbrev pub IsWhose : Scene → Whose → ℕ → Type 0
IsWhose scene Own id = id ≡ scene.object
IsWhose scene FormerInput id = scene.input ≡ Some id
IsWhose scene FormerMask id = IsActive scene.before scene.object id
IsWhose scene PresentMask id = IsActive scene.after scene.object id

-- A number or a text is stored among the objects, so a value has changed exactly if these have.
abbrev pub Holds : Scene → Cause → Type 0
Holds scene Always = Unit {0}
Holds scene OtherInput = scene.input ≢ Some scene.object
Holds scene OtherValue = scene.after ≢ scene.before
Holds scene OtherMask = (mask : ℕ) → IsActive scene.before scene.object mask → IsActive scene.after scene.object mask → ⊥
Holds scene StateOne = scene.state ≡ Some 1
Holds scene StateZero = scene.state ≡ Some 0

-- The events of a table's rows, in their order: of each row whose cause holds and whose object is there, and of no other.
pub data AreRaised (scene : Scene) : List EventRow → List Raised → Type 0 where
  end : AreRaised scene [] []
  raised : {r : EventRow} {rows : List EventRow} {event : Raised} {events : List Raised} → Holds scene r.cause
      → IsWhose scene r.whose event.id → event_at r.event ≡ Some event.event → AreRaised scene rows events
      → AreRaised scene (r ∷ rows) (event ∷ events)
  not_raised : {r : EventRow} {rows : List EventRow} {events : List Raised}
      → (Holds scene r.cause → (id : ℕ) → IsWhose scene r.whose id → ⊥) → AreRaised scene rows events
      → AreRaised scene (r ∷ rows) events

-- ---- the law

-- an action on an object, from a state of its working set to another
abbrev pub action_on : ℕ → SetState → SetState → Scene
action_on id state start = record { object = id; input = state.input; state = None; before = state.objects; after = start.objects }

-- the state in Hide/Show and Enable/Disable
abbrev pub state_in : Command → Option ℕ
state_in (HideShow id state) = Some state
state_in (EnableDisable id state) = Some state
state_in _ = None

-- a command on an object, from a store to another
abbrev pub command_on : ℕ → Command → ObjectMap → ObjectMap → Scene
command_on id command store new = record { object = id; input = None; state = state_in command; before = store; after = new }

-- Each action of the operator that is done, and each command that is done, raises the events of its table. A command without an object
-- and a refused command raise none. A table leads to one list of events.
pub record EventsAreRaised : Type 0 where
  pub presses : (shown : Bool) (state start : SetState) (mask id : ℕ) (message : List ℕ) (events : List Raised)
      → operator.press shown state mask id ≡ Acts message start events → AreRaised (action_on id state start) pressed events
  pub releases : (state start : SetState) (id : ℕ) (message : List ℕ) (events : List Raised)
      → operator.release state id ≡ Acts message start events → AreRaised (action_on id state start) released events
  pub selections : (shown : Bool) (state start : SetState) (id : ℕ) (message : List ℕ) (events : List Raised)
      → operator.select shown state id ≡ Acts message start events → AreRaised (action_on id state start) selected events
  pub numbers : (shown : Bool) (state start : SetState) (id n : ℕ) (message : List ℕ) (events : List Raised) → IsSound state.objects
      → IsCounted (finite.get state.objects id) → enter_number shown state id n ≡ Acts message start events
      → AreRaised (action_on id state start) entered events
  pub texts : (shown : Bool) (state start : SetState) (id : ℕ) (text message : List ℕ) (events : List Raised)
      → enter_text shown state id text ≡ Acts message start events → AreRaised (action_on id state start) entered events
  pub commands : (store new : ObjectMap) (command : Command) (id : ℕ) → finite.get store null_id ≡ None → object_of command ≡ Some id
      → effect store command ≡ Ok new
      → AreRaised (command_on id command store new) (rows_at commands_done (function_of command)) (machines.events_of store command)
  pub without_object : (store : ObjectMap) (command : Command) → object_of command ≡ None → machines.events_of store command ≡ []
  pub done : (store new : ObjectMap) (command : Command) → effect store command ≡ Ok new
      → machines.raised store command ≡ machines.events_of store command
  pub refused : (store : ObjectMap) (command : Command) (bits : ℕ) → ◌≡◌ {A = Result ObjectMap ℕ} (effect store command) (Err bits)
      → machines.raised store command ≡ []
  pub one_list : (scene : Scene) (rows : List EventRow) (events others : List Raised) → AreRaised scene rows events
      → AreRaised scene rows others → events ≡ others
