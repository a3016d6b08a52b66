-- The audio commands that the runs of macros do (docs/PROFILE.md, "Runs", "Events for a host").
use Rattle.std.specs.Prelude.{ℕ, zero, suc, if◌then◌else◌, List, [], ◌∷◌, ◌++◌, is_ok}
use Rattle.vt_commands.specs.declared.command.Command.{Command}
use Rattle.vt_commands.specs.declared.raising.Raised.{Raised}
use Rattle.vt_effects.specs.Effects.{effect, after}
use Rattle.vt_effects.specs.Soundness.{shape_in}
use Rattle.vt_macros.specs.declared.audio.Audio.{Audio}
use Rattle.vt_macros.specs.Audio.{noted}
use Rattle.vt_macros.specs.Machines.{follow_ups, joined_all, total_budget}
use Rattle.vt_stores.specs.Stores.{ObjectMap}

-- what is noted after a command, by whether it is done: a refused command is not noted
abbrev pub noted_if_done : Audio → ObjectMap → Command → Audio
noted_if_done audio store command = if is_ok (effect store command) then noted audio command else audio

-- The audio commands done after at most so many steps, which start on these objects with these pending commands. They are
-- noted in the order of the steps.
unfoldable pub audio_after : ℕ → Audio → ObjectMap → List Command → Audio
audio_after left audio store [] = audio
audio_after zero audio store (command ∷ pending) = audio
audio_after (suc left) audio store (command ∷ pending) =
    audio_after left (noted_if_done audio store command) (after store command) (follow_ups store command ++ pending)

-- the audio commands done after a run of events
abbrev pub audio_of_run : Audio → ObjectMap → List Raised → Audio
audio_of_run audio store raised = audio_after (total_budget (shape_in store) raised) audio store (joined_all (shape_in store) raised)
