-- The audio commands that a working set has done, counted, with the last of each.
use Rattle.std.specs.Prelude.{ℕ, ◌+◌, ◌%◌}
use Rattle.vt_commands.specs.declared.command.Command.{Command}
use Rattle.vt_commands.specs.declared.command.Command.TheVariants.{ControlAudio, SetVolume}
use Rattle.vt_macros.specs.declared.audio.Audio.{Audio}
use Rattle.vt_macros.specs.declared.audio.Signal.{Signal}

-- the count after one more: after 2^32 - 1 comes 0
abbrev pub one_more : ℕ → ℕ
one_more count = (count + 1) % 4294967296

abbrev pub no_signal : Signal
no_signal = record { activations = 0; frequency = 0; on = 0; off = 0 }

-- before the first audio command
abbrev pub silence : Audio
silence = record { signals = 0; signal = no_signal; volumes = 0; volume = 0 }

abbrev pub sounded : Audio → Signal → Audio
sounded audio signal = record { signals = one_more audio.signals; signal = signal; volumes = audio.volumes; volume = audio.volume }

abbrev pub with_volume : Audio → ℕ → Audio
with_volume audio volume = record { signals = audio.signals; signal = audio.signal; volumes = one_more audio.volumes; volume = volume }

-- what is noted after a command that is done
abbrev pub noted : Audio → Command → Audio
noted audio (ControlAudio count frequency on off) = sounded audio (record { activations = count; frequency = frequency; on = on; off = off })
noted audio (SetVolume volume) = with_volume audio volume
noted audio command = audio
