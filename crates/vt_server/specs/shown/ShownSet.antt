-- The shown set and the status message (docs/PROFILE.md, "The shown set and the selected set", "The status message").
use Rattle.std.specs.Prelude.{ℕ, ◌==◌, ◌&&◌, Bool, nat_le, nat_eq, if◌then◌else◌, List, [], ◌∷◌, ◌++◌, Option, Some, None, is_some}
use Rattle.std.specs.Option.{option_eq}
use Rattle.std.specs.FinMap as finite
use Rattle.byteorder.specs.Endian.{little_bytes}
use Rattle.vt_can.specs.Assigned.{FILL, GLOBAL_ADDRESS, NULL_ADDRESS, VT_STATUS}
use Rattle.vt_can.specs.declared.frames.frame.Frame.{Frame}
use Rattle.vt_names.specs.Registry.{Set}
use Rattle.vt_kinds.specs.declared.object.Object.TheVariants as objects
use Rattle.vt_kinds.specs.Ids.{null_id}
use Rattle.vt_kinds.specs.Records.{Seen}
use Rattle.vt_commands.specs.declared.event.Event.TheVariants as events
use Rattle.vt_commands.specs.Events.{event_number}
use Rattle.vt_machine.specs.SetStates.{SetState}
use Rattle.vt_machine.specs.SetStates.{active_in}
use Rattle.vt_shown.specs.ShownElements.{soft_key_mask_of}
use Rattle.vt_node.specs.Messages.{message_to}
use Rattle.vt_server.specs.declared.shown.Alarm.{Alarm}
use Rattle.vt_server.specs.state.AddressViews.{Act, Raises}
use Rattle.vt_server.specs.Terminals.{State, Sent, ToAll, pool_of, pool_at}

-- ---- alarms

-- the priority of an Alarm Mask; None for other kinds
abbrev pub priority_of : Option Seen → Option ℕ
priority_of (Some (objects.AlarmMask o)) = Some o.priority
priority_of _ = None

abbrev pub alarm_in : Option SetState → Option ℕ
alarm_in None = None
alarm_in (Some state) = priority_of (finite.get state.objects (active_in state.objects))

-- the alarm of the lower priority number; of equal ones the first
abbrev pub louder : ℕ → Option ℕ → Option Alarm → Option Alarm
louder address None other = other
louder address (Some priority) None = Some (record { address = address; priority = priority })
louder address (Some priority) (Some other) =
    if nat_le priority other.priority then Some (record { address = address; priority = priority }) else Some other

-- the alarm of the lowest priority number, by the sets in order of registration
abbrev pub loudest : (ℕ → Option SetState) → List Set → Option Alarm
loudest pools [] = None
loudest pools (set ∷ sets) = louder set.address (alarm_in (pools set.address)) (loudest pools sets)

-- ---- the selected set and the shown set

abbrev pub first_with_pool : (ℕ → Option SetState) → List Set → Option ℕ
first_with_pool pools [] = None
first_with_pool pools (set ∷ sets) = if is_some (pools set.address) then Some set.address else first_with_pool pools sets

-- an address with its pool, if it has one
abbrev pub with_pool_at : ℕ → Option SetState → Option (ℕ × SetState)
with_pool_at address None = None
with_pool_at address (Some state) = Some (address, state)

abbrev pub pool_shown_by : (ℕ → Option SetState) → Option ℕ → Option (ℕ × SetState)
pool_shown_by pools None = None
pool_shown_by pools (Some address) = with_pool_at address (pools address)

abbrev pub pool_shown : State → Option (ℕ × SetState)
pool_shown s = pool_shown_by (pool_of s) s.shown

-- the former selected set if it has a pool, else the first set with a pool
abbrev pub selected_now : State → Option ℕ
selected_now s = if is_some (pool_at s s.selected) then s.selected else first_with_pool (pool_of s) s.sets

abbrev pub or_selected : Option Alarm → Option ℕ → Option ℕ
or_selected None selected = selected
or_selected (Some alarm) selected = Some alarm.address

abbrev pub shown_now : State → Option ℕ
shown_now s = or_selected (loudest (pool_of s) s.sets) (selected_now s)

abbrev pub choosing : State → State
choosing s = record s { selected = selected_now s; shown = shown_now s }

-- ---- the events of a change

-- the numbers of the events Deactivate and Activate
abbrev pub DEACTIVATE : ℕ
DEACTIVATE = event_number events.Deactivate

abbrev pub ACTIVATE : ℕ
ACTIVATE = event_number events.Activate

abbrev pub raised_at : Option ℕ → ℕ → List (ℕ × Act)
raised_at None event = []
raised_at (Some address) event = (address, Raises event) ∷ []

-- Deactivate on the former shown set, then Activate on the new one
abbrev pub events_of_change : Option ℕ → Option ℕ → List (ℕ × Act)
events_of_change was now = if option_eq nat_eq was now then [] else raised_at was DEACTIVATE ++ raised_at now ACTIVATE

-- ---- the status

-- the shown set with its active mask and the soft key mask of that mask
pub record ShownMasks : Type 0 where
  pub address : ℕ
  pub mask : ℕ
  pub soft_keys : ℕ

abbrev pub display_of : ℕ → Option SetState → ShownMasks
display_of address None = record { address = NULL_ADDRESS; mask = null_id; soft_keys = null_id }
display_of address (Some state) = record {
  address = address;
  mask = active_in state.objects;
  soft_keys = soft_key_mask_of (finite.get state.objects (active_in state.objects));
}

abbrev pub display_at : (ℕ → Option SetState) → Option ℕ → ShownMasks
display_at pools None = display_of 0 None
display_at pools (Some address) = display_of address (pools address)

unfoldable pub display : State → ShownMasks
display s = display_at (pool_of s) s.shown

abbrev pub same_display : ShownMasks → ShownMasks → Bool
same_display a b = (a.address == b.address) && ((a.mask == b.mask) && (a.soft_keys == b.soft_keys))

abbrev pub status_frame : ℕ → ShownMasks → Frame
status_frame own shown =
    message_to own GLOBAL_ADDRESS ((VT_STATUS ∷ shown.address ∷ little_bytes 2 shown.mask) ++ little_bytes 2 shown.soft_keys ++ 0 ∷ FILL ∷ [])

-- the status message, where the display has changed
abbrev pub status : ℕ → ShownMasks → ShownMasks → List Sent
status own was now = if same_display was now then [] else ToAll (status_frame own now) ∷ []
