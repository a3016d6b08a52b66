-- The events for a host: a function of what was seen before an input, the input, what was sent, and the state after it with the end of the
-- upload that is told (docs/PROFILE.md, "Events for a host").
use Rattle.std.specs.Prelude.{◌≡◌, ◌+◌, ◌*◌, ◌/◌, ℕ, ◌==◌, ◌&&◌, ◌||◌, Bool, true, false, not, max, nat_le, nat_eq, slice_get, if◌then◌else◌, List, [], ◌++◌, length, Option, Some, None, is_some}
use Rattle.std.specs.List.{flat_map, list_any}
use Rattle.std.specs.Option.{option_eq, option_map, option_to_list}
use Rattle.vt_can.specs.Assigned.{END_OF_POOL, VT_TO_ECU}
use Rattle.vt_can.specs.declared.frames.frame.Frame.{Frame}
use Rattle.vt_can.specs.frames.Frame.{source_of}
use Rattle.vt_can.specs.frames.Identifier.{parts_of, pgn_of}
use Rattle.vt_names.specs.Registry.{set_at}
use Rattle.vt_transport.specs.Wire.{ends_message, tp_frame}
use Rattle.vt_machine.specs.SetStates.{SetState}
use Rattle.vt_server.specs.Outputs.{HasSpare}
use Rattle.vt_server.specs.States.{state_of}
use Rattle.vt_server.specs.Terminals.{State, pool_of}
use Rattle.vt_server.specs.declared.shown.ShownMasks.{ShownMasks}
use Rattle.vt_server.specs.message.UploadEnds.{upload_end}
use Rattle.vt_server.specs.shown.DisplayValues.{display_value}
use Rattle.vt_server.specs.shown.ShownSet.{same_display}
use Rattle.vt_server.specs.state.AddressStates.{progress_of}
use Rattle.vt_server.specs.declared.output.Output.{Output}
use Rattle.vt_server.specs.declared.output.Output.TheVariants as outputs
use Rattle.vt_server.specs.declared.terminal.Terminal.{Terminal}
use Rattle.vt_server.specs.declared.upload_end.UploadEnd.{UploadEnd}
use Rattle.vt_server.specs.declared.upload_end.UploadEnd.TheVariants as ends
use Rattle.vt_host_events.specs.declared.event.Alarm.{Alarm}
use Rattle.vt_host_events.specs.declared.event.HostEvent.{HostEvent}
use Rattle.vt_host_events.specs.declared.event.HostEvent.TheVariants as told
use Rattle.vt_host_events.specs.declared.observer.Observer.{Observer}
use Rattle.vt_host_events.specs.declared.seen.SetSeen.{SetSeen}
use Rattle.vt_host_events.specs.declared.seen.SourceSeen.{SourceSeen}
use Rattle.vt_host_events.specs.Seen.{alarm_of, display_of, sets_seen, source_seen}

-- ---- the sets that were there

-- A message to a set is aborted: it was overdue, or it has ended without an acknowledgement of its end.
abbrev pub text_event : State → Option ℕ → SetSeen → Option HostEvent
text_event s acknowledged set =
    if set.is_sending && (set.is_overdue || (not (is_some (s.places set.address).sending) && not (option_eq nat_eq acknowledged (Some set.address))))
    then Some (told.TextAborted set.address) else None

-- A set is closed: it fell silent, or it is not there any more.
abbrev pub closed_event : State → SetSeen → Option HostEvent
closed_event s set =
    if set.is_silent then Some (told.SetSilent set.address)
    else if is_some (set_at set.address s.sets) then None
    else Some (told.SetClosed set.address)

abbrev pub set_events : State → Option ℕ → SetSeen → List HostEvent
set_events s acknowledged set = option_to_list (text_event s acknowledged set) ++ option_to_list (closed_event s set)

-- the address that acknowledges the end of a message by a frame
abbrev pub acknowledged_by : ℕ → Option Frame → Option ℕ
acknowledged_by own None = None
acknowledged_by own (Some frame) = if ends_message VT_TO_ECU (tp_frame own frame) then Some (source_of frame) else None

-- ---- the source of a frame, which has a set after it

abbrev pub came_event : SourceSeen → Option HostEvent
came_event source = if source.has_set then None else Some (told.SetCame source.address)

-- the bytes of an upload have passed another multiple of 1,024
abbrev pub progress_event : State → SourceSeen → Option HostEvent
progress_event s source =
    let progress = progress_of (s.places source.address) in
    if nat_le (progress.came / 1024) (source.came / 1024) then None else Some (told.Uploaded source.address progress)

abbrev pub deleted_event : State → SourceSeen → Option HostEvent
deleted_event s source =
    if source.has_set && source.has_pool && not (is_some (pool_of s source.address)) then Some (told.PoolDeleted source.address) else None

-- whether an output is the reply to End of Object Pool
abbrev pub is_end_reply : Output → Bool
is_end_reply (outputs.Frame frame) = (pgn_of (parts_of frame.id) == VT_TO_ECU) && option_eq nat_eq (slice_get frame.bytes.items 0) (Some END_OF_POOL)
is_end_reply (outputs.Refused fault) = false

-- the event of an upload that ended so
abbrev pub ended : SourceSeen → Option UploadEnd → Option HostEvent
ended source None = None
ended source (Some ends.Accepted) = Some (if source.has_pool then told.PoolUpdated source.address else told.PoolAccepted source.address)
ended source (Some (ends.Faulty fault)) = Some (told.PoolFaulty source.address fault)
ended source (Some (ends.Refused rule)) = Some (told.PoolRefused source.address rule)

-- An upload ended where the reply to its end is sent.
abbrev pub end_event : Option UploadEnd → List Output → SourceSeen → Option HostEvent
end_event end sent source = if list_any is_end_reply sent then ended source end else None

abbrev pub events_at : State → Option UploadEnd → List Output → SourceSeen → List HostEvent
events_at s end sent source =
    option_to_list (came_event source) ++ option_to_list (progress_event s source) ++ option_to_list (deleted_event s source)
    ++ option_to_list (end_event end sent source)

abbrev pub source_events : State → Option UploadEnd → List Output → Option SourceSeen → List HostEvent
source_events s end sent None = []
source_events s end sent (Some source) = if is_some (set_at source.address s.sets) then events_at s end sent source else []

-- ---- what is shown

abbrev pub lost_event : State → Option HostEvent
lost_event s = if s.lost then Some (told.AddressLost s.claims.own) else None

abbrev pub shown_event : ShownMasks → ShownMasks → Option HostEvent
shown_event was now = if same_display (display_value was) (display_value now) then None else Some (told.Shown now)

abbrev pub same_alarm : Alarm → Alarm → Bool
same_alarm a b = (a.address == b.address) && ((a.mask == b.mask) && ((a.priority == b.priority) && (a.acoustic == b.acoustic)))

abbrev pub alarm_event : Option Alarm → Option Alarm → Option HostEvent
alarm_event None None = None
alarm_event (Some was) None = Some (told.AlarmOver was.address)
alarm_event None (Some now) = Some (told.Alarm now)
alarm_event (Some was) (Some now) = if same_alarm was now then None else Some (told.Alarm now)

abbrev pub shown_events : State → ShownMasks → Option Alarm → List HostEvent
shown_events s display alarm =
    option_to_list (lost_event s) ++ option_to_list (shown_event display (display_of s)) ++ option_to_list (alarm_event alarm (alarm_of s))

-- ---- sounds

-- A set asks for an audio signal: it has done another Control Audio Signal, of which the last one counts.
abbrev pub signal_event : SetSeen → Option SetState → Option HostEvent
signal_event seen None = None
signal_event seen (Some set) =
    if set.audio.signals == seen.audio.signals then None else Some (told.Signal seen.address set.audio.signal)

-- A set asks for an audio volume: it has done another Set Audio Volume, of which the last one counts.
abbrev pub volume_event : SetSeen → Option SetState → Option HostEvent
volume_event seen None = None
volume_event seen (Some set) =
    if set.audio.volumes == seen.audio.volumes then None else Some (told.Volume seen.address set.audio.volume)

abbrev pub sound_events : State → SetSeen → List HostEvent
sound_events s seen =
    option_to_list (signal_event seen (pool_of s seen.address)) ++ option_to_list (volume_event seen (pool_of s seen.address))

-- ---- an observer

-- the time of an input, which never goes back
abbrev pub time_of : State → Option ℕ → Option ℕ
time_of s time = option_map (λ t. max t s.now) time

-- There is spare capacity for all events of an input.
abbrev pub HasRoom : Observer → Type 0
HasRoom seen = HasSpare (4 * length seen.sets.items + 7) seen.events

-- An observer has seen the state before an input: a frame with its time, a time, or neither for an action at the latest time so far.
pub record HasSeen (s : State) (time : Option ℕ) (frame : Option Frame) (seen : Observer) : Type 0 where
  pub sets : seen.sets.items ≡ sets_seen s (time_of s time)
  pub source : seen.source ≡ option_map (λ f. source_seen s (time_of s time) (source_of f)) frame
  pub display : seen.display ≡ display_of s
  pub alarm : seen.alarm ≡ alarm_of s
  pub room : HasRoom seen

-- An observer looks at a state before an input. Of a terminal that lost its address it sees that alone.
pub record IsObserving (s : State) (time : Option ℕ) (frame : Option Frame) (seen : Observer) : Type 0 where
  pub lost : seen.is_lost ≡ s.lost
  pub seen_is : s.lost ≡ false → HasSeen s time frame seen

-- the events of an input
abbrev pub events_of : Observer → Option Frame → List Output → State → Option UploadEnd → List HostEvent
events_of seen frame sent s end =
    flat_map (set_events s (acknowledged_by s.claims.own frame)) seen.sets.items ++ source_events s end sent seen.source
    ++ shown_events s seen.display seen.alarm ++ flat_map (sound_events s) seen.sets.items

-- The events of an input are told. To a terminal that lost its address before, nothing happens.
abbrev pub TellsBy : Bool → Observer → Option Frame → List Output → Terminal → List HostEvent → Type 0
TellsBy true seen frame sent after events = events ≡ []
TellsBy false seen frame sent after events = events ≡ events_of seen frame sent (state_of after) (upload_end after)

abbrev pub TellsEvents : Observer → Option Frame → List Output → Terminal → Observer → Type 0
TellsEvents seen frame sent after new = TellsBy seen.is_lost seen frame sent after new.events.items
