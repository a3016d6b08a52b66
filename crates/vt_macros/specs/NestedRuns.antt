-- Runs within runs: the macros of an event run before the pending commands (docs/PROFILE.md, "Runs").
use Rattle.std.specs.Prelude.{◌≡◌, ◌≤◌, ◌+◌, ℕ, List, [], ◌++◌, drop, sum_by, None}
use Rattle.std.specs.Option.{option_to_list}
use Rattle.std.specs.List.{AllByRecursion, flat_map}
use Rattle.vt_commands.specs.declared.command.Command.{Command}
use Rattle.vt_stores.specs.Stores.{Objects, ObjectMap}
use Rattle.vt_stores.specs.Shapes.{Shape, shape_of}
use Rattle.vt_verify.specs.Macros.{commands}
use Rattle.vt_verify.specs.Budgets.{MacroCostsAreTotals, cost, command_cost}
use Rattle.vt_verify.specs.Rules.{IsVerified, IsWithinBudget, working_sets}
use Rattle.vt_chains.specs.Limits.{terminal}
use Rattle.vt_macros.specs.declared.audio.Audio.{Audio}
use Rattle.vt_macros.specs.declared.index.Index.{Index}
use Rattle.vt_macros.specs.declared.index.Span.{Span}
use Rattle.vt_chains.specs.declared.levels.Levels.{Levels}
use Rattle.vt_chains.specs.Certificates.{AreLevels}
use Rattle.vt_macros.specs.AudioOfRuns.{audio_after}
use Rattle.vt_macros.specs.Indexes.{IsIndexOf, command_in}
use Rattle.vt_macros.specs.Machines.{fault, run}
use Rattle.vt_effects.specs.Soundness.{shape_in}
use Rattle.vt_effects.specs.Soundness.{IsSound}

-- The shape is that of a verified pool.
pub record IsOfVerified (shape : Shape) : Type 0 where
  pub pool : Objects
  pub verified : IsVerified pool
  pub same : shape_of pool ≡ shape

-- the macros of a store can run: it is in order, with its index and levels
pub record CanRun (index : Index) (store : ObjectMap) (levels : Levels) : Type 0 where
  pub indexed : IsIndexOf (shape_in store) index
  pub levelled : AreLevels store levels
  pub sound : IsSound store
  pub working_set : working_sets (shape_in store) ≡ 1
  pub totals : MacroCostsAreTotals (shape_in store)
  pub within : IsWithinBudget terminal.steps (shape_in store)
  pub faultless : (id : ℕ) → AllByRecursion (λ command. fault (shape_in store) command ≡ None) (commands (shape_in store) id)
  pub shaped : IsOfVerified (shape_in store)

-- `steps` steps lead from one store to another, and from pending commands to others, whatever is pending after them.
abbrev pub StepsLead : ObjectMap → List Command → ℕ → ObjectMap → List Command → Type 0
StepsLead old front steps new next = (rest : List Command) (left : ℕ) → run (steps + left) old (front ++ rest) ≡ run left new (next ++ rest)

-- Over these steps, the audio commands that are done become `new_audio`.
abbrev pub StepsSound : ObjectMap → Audio → List Command → ℕ → ObjectMap → Audio → List Command → Type 0
StepsSound old audio front steps new new_audio next =
    (rest : List Command) (left : ℕ) → audio_after (steps + left) audio old (front ++ rest) ≡ audio_after left new_audio new (next ++ rest)

-- commands have run, in at most `most` steps
pub record HaveRun (index : Index) (old : ObjectMap) (audio : Audio) (front : List Command) (most steps : ℕ) (new : ObjectMap) (new_audio : Audio) (levels : Levels) : Type 0 where
  pub can : CanRun index new levels
  pub shape : shape_in new ≡ shape_in old
  pub leads : StepsLead old front steps new []
  pub sounds : StepsSound old audio front steps new new_audio []
  pub within : steps ≤ most

-- the command at a span of the macros' bytes, as a list
abbrev pub commands_at : Index → Span → List Command
commands_at index piece = option_to_list (command_in index piece)

-- the most that a command costs on a store
abbrev pub cost_on_store : ObjectMap → Command → ℕ
cost_on_store store command = command_cost (cost (shape_in store)) (shape_in store) command

-- ---- a loop that runs the parts of a list one after the other, from an index on

pub record AreRunning {A : Type 0} (index : Index) (old : ObjectMap) (audio : Audio) (front : A → List Command) (most : A → ℕ) (parts : List A) (place steps : ℕ) (now : ObjectMap) (now_audio : Audio) (levels : Levels) : Type 0 where
  pub can : CanRun index now levels
  pub shape : shape_in now ≡ shape_in old
  pub leads : StepsLead old (flat_map front parts) steps now (flat_map front (drop place parts))
  pub sounds : StepsSound old audio (flat_map front parts) steps now now_audio (flat_map front (drop place parts))
  pub within : steps + sum_by most (drop place parts) ≤ sum_by most parts
