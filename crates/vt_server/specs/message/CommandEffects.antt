-- The effect of a command on the pool of its working set (docs/PROFILE.md, "Commands: form, tests, error byte and events",
-- "Runs").
use Rattle.std.specs.Prelude.{ℕ, Bool, true, false, if◌then◌else◌, List, Option, Some, Result, Ok, Err}
use Rattle.std.specs.Option.{option_map}
use Rattle.vt_commands.specs.declared.command.Command.{Command}
use Rattle.vt_commands.specs.declared.command.Command.TheVariants.{DeletePool}
use Rattle.vt_commands.specs.declared.raising.Raised.{Raised}
use Rattle.vt_stores.specs.Stores.{ObjectMap}
use Rattle.vt_machine.specs.declared.live.Outcome.{Outcome}
use Rattle.vt_machine.specs.declared.live.Outcome.TheVariants.{Done, Refused}
use Rattle.vt_effects.specs.Effects.{effect}
use Rattle.vt_machine.specs.SetStates.{SetState, after_run, audio_after_command}
use Rattle.vt_server.specs.state.AddressStates.{SetPool, no_content}
use Rattle.vt_macros.specs.Machines.{store_of, run_of, events_of}

-- The objects after a command: if it is done, after the macros of its events; if it is refused, unchanged.
abbrev pub after_done : ObjectMap → List Raised → Result ObjectMap ℕ → ObjectMap
after_done old raised (Ok middle) = store_of (run_of middle raised)
after_done old raised (Err bits) = old

abbrev pub objects_after : Command → ObjectMap → ObjectMap
objects_after command old = after_done old (events_of old command) (effect old command)

-- the error byte of a result: 0 if it is Ok
abbrev pub error_in : Result ObjectMap ℕ → ℕ
error_in (Ok middle) = 0
error_in (Err bits) = bits

abbrev pub error_of : Command → SetState → ℕ
error_of command state = error_in (effect state.objects command)

abbrev pub state_after : Command → SetState → SetState
state_after command state = after_run state (objects_after command state.objects) (audio_after_command command state)

-- the error byte of a command's outcome
abbrev pub bits_of : Outcome → ℕ
bits_of (Done steps) = 0
bits_of (Refused bits) = bits

-- whether a command is Delete Object Pool, which is done without a pool too
abbrev pub deletes : Command → Bool
deletes DeletePool = true
deletes _ = false

-- the content of a set after a command; Delete Object Pool removes the upload too
abbrev pub content_after : Command → SetPool → SetPool
content_after command content = if deletes command then no_content else record content { pool = option_map (state_after command) content.pool }

abbrev pub error_after : Command → Option SetState → Option ℕ
error_after command pool = if deletes command then Some 0 else option_map (error_of command) pool
