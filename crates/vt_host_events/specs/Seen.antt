-- What is seen of a terminal before an input and after it (docs/PROFILE.md, "Events for a host").
use Rattle.std.specs.Prelude.{ℕ, ◌&&◌, Bool, false, not, List, map, Option, Some, None, is_some}
use Rattle.std.specs.FinMap as finite
use Rattle.vt_can.specs.Assigned.{SENDER_TIMEOUT}
use Rattle.vt_can.specs.transport.Sessions.{is_overdue}
use Rattle.vt_names.specs.Registry.{set_at}
use Rattle.vt_node.specs.Watches.{is_silent}
use Rattle.vt_kinds.specs.Records.{Seen}
use Rattle.vt_kinds.specs.declared.object.Object.TheVariants as objects
use Rattle.vt_macros.specs.Audio.{silence}
use Rattle.vt_macros.specs.declared.audio.Audio.{Audio}
use Rattle.vt_machine.specs.SetStates.{SetState, active_in}
use Rattle.vt_server.specs.Terminals.{State, pool_of}
use Rattle.vt_server.specs.declared.shown.ShownMasks.{ShownMasks}
use Rattle.vt_server.specs.shown.DisplayValues.{masks_value}
use Rattle.vt_server.specs.shown.ShownSet.{display}
use Rattle.vt_server.specs.state.AddressStates.{progress_of}
use Rattle.vt_host_events.specs.declared.event.Alarm.{Alarm}
use Rattle.vt_host_events.specs.declared.seen.SetSeen.{SetSeen}
use Rattle.vt_host_events.specs.declared.seen.SourceSeen.{SourceSeen}

-- ---- the sets

-- whether a message to an address is overdue at the time of an input, which an action of the operator does not have
abbrev pub overdue_by : Option ℕ → State → ℕ → Bool
overdue_by None s address = false
overdue_by (Some time) s address = is_overdue SENDER_TIMEOUT time (s.places address).sending

-- whether an address is silent at the time of an input
abbrev pub silent_by : Option ℕ → State → ℕ → Bool
silent_by None s address = false
silent_by (Some time) s address = is_silent time (s.places address).heard

-- the audio commands that a set has done; none without a pool
abbrev pub audio_of : Option SetState → Audio
audio_of None = silence
audio_of (Some set) = set.audio

abbrev pub set_seen : State → Option ℕ → ℕ → SetSeen
set_seen s time address = record {
  address = address;
  is_sending = is_some (s.places address).sending;
  is_overdue = overdue_by time s address;
  is_silent = silent_by time s address;
  audio = audio_of (pool_of s address);
}

abbrev pub sets_seen : State → Option ℕ → List SetSeen
sets_seen s time = map (λ set. set_seen s time set.address) s.sets

-- the source of a frame: a set that falls silent at the time of the frame counts as none
abbrev pub source_seen : State → Option ℕ → ℕ → SourceSeen
source_seen s time address = record {
  address = address;
  has_set = is_some (set_at address s.sets) && not (silent_by time s address);
  has_pool = is_some (pool_of s address);
  came = (progress_of (s.places address)).came;
}

-- ---- what is shown

abbrev pub display_of : State → ShownMasks
display_of s = masks_value (display s)

-- ---- alarms

abbrev pub alarm_by : ℕ → ℕ → Option Seen → Option Alarm
alarm_by address mask (Some (objects.AlarmMask o)) =
    Some (record { address = address; mask = mask; priority = o.priority; acoustic = o.acoustic })
alarm_by address mask _ = None

abbrev pub alarm_shown_by : ℕ → Option SetState → Option Alarm
alarm_shown_by address None = None
alarm_shown_by address (Some set) = alarm_by address (active_in set.objects) (finite.get set.objects (active_in set.objects))

abbrev pub alarm_at : State → Option ℕ → Option Alarm
alarm_at s None = None
alarm_at s (Some address) = alarm_shown_by address (pool_of s address)

-- the alarm mask that is shown, if one is
abbrev pub alarm_of : State → Option Alarm
alarm_of s = alarm_at s s.shown
