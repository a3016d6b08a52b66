-- The listed runs of an input are the runs of its step (docs/PROFILE.md, "The step", "Runs").
use Rattle.std.specs.Prelude.{◌≡◌, ◌≢◌, ℕ, Bool, ◌==◌, List, [], ◌∷◌, Some, Ok, IfSome, IsSomeAnd}
use Rattle.std.specs.List.{AllByRecursion, filter}
use Rattle.std.specs.Option.{option_map}
use Rattle.vt_can.specs.declared.frames.frame.Frame.{Frame}
use Rattle.vt_can.specs.frames.Frame.{source_of}
use Rattle.vt_can.specs.lines.Actions.{ActionValue}
use Rattle.vt_commands.specs.declared.command.Command.{Command}
use Rattle.vt_commands.specs.declared.event.Event as objects
use Rattle.vt_commands.specs.Events.{raise}
use Rattle.vt_stores.specs.Stores.{ObjectMap}
use Rattle.vt_effects.specs.Effects.{effect}
use Rattle.vt_macros.specs.Machines.{events_of, run_of, store_of}
use Rattle.vt_machine.specs.SetStates.{SetState, working_set_in}
use Rattle.vt_machine.specs.OperatorActions.{Acts}
use Rattle.vt_server.specs.operator.ActionEffects.{action_on}
use Rattle.vt_server.specs.Steps.{JudgedInput, FrameAt, step}
use Rattle.vt_server.specs.Terminals.{State, pool_of}
use Rattle.vt_server.specs.message.Verdicts.{Verdict}
use Rattle.vt_laws.specs.Headline.{Pools, Run, accepted_after, runs}

-- the objects after a run
abbrev pub objects_after_run : Run → ObjectMap
objects_after_run run = store_of (run_of run.objects run.raised)

-- Runs in sequence: the first starts from the objects before, and each other one from the objects after its predecessor.
abbrev pub Lead : ObjectMap → List Run → ObjectMap → Type 0
Lead old [] new = new ≡ old
Lead old (run ∷ runs) new = (run.before ≡ old) × Lead (objects_after_run run) runs new

abbrev pub runs_there : ℕ → List Run → List Run
runs_there address runs = filter (λ run. run.address == address) runs

-- The beginning of a run: a command that is done, an action of the operator, or an event of the Working Set.
pub data IsBegun (run : Run) : Type 0 where
  ByCommand : (command : Command) → effect run.before command ≡ Ok run.objects → run.raised ≡ events_of run.before command → IsBegun run
  ByAction : (state start : SetState) (shown : Bool) (action : ActionValue) (message : List ℕ) → state.objects ≡ run.before
      → action_on state shown action ≡ Some (Acts message start run.raised) → start.objects ≡ run.objects → IsBegun run
  ByEvent : (event : objects.Event) → run.objects ≡ run.before → run.raised ≡ raise (working_set_in run.before) event ∷ [] → IsBegun run

-- the objects of each set
abbrev pub objects_in : State → Pools
objects_in s address = option_map (λ state. state.objects) (pool_of s address)

-- Each run begins with a command, an action or an event. The objects of a set after an input are the result of the runs there,
-- from the objects before or from a pool accepted during the input: no run is missing, and nothing else changes an object.
pub record RunsAreOfSteps : Type 0 where
  pub begun : (s : State) (e : JudgedInput) → AllByRecursion IsBegun (runs s e)
  pub lead : (s : State) (e : JudgedInput) (address : ℕ) → IfSome (pool_of (step s e).after address)
      (λ new. IsSomeAnd (accepted_after s e (objects_in s) address) (λ old. Lead old (runs_there address (runs s e)) new.objects))

-- A frame changes no object of a set at another address than its own, while the shown set stays: after it the set has the same
-- objects, or no pool.
abbrev pub OthersKeepObjects : Type 0
OthersKeepObjects = (s : State) (time : ℕ) (frame : Frame) (verdict : Verdict) (address : ℕ) → address ≢ source_of frame
    → (step s (FrameAt time frame verdict)).after.shown ≡ s.shown
    → IfSome (pool_of (step s (FrameAt time frame verdict)).after address) (λ new. IsSomeAnd (objects_in s address) (λ old. new.objects ≡ old))
