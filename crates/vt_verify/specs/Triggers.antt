-- The events that a command may raise, and the macros that they start (docs/PROFILE.md, "What a command may raise",
-- "Triggers and circles").
use Rattle.std.specs.Prelude.{ℕ, Bool, true, false, nat_le, ◌==◌, if◌then◌else◌, List, [], ◌∷◌, ◌++◌, filter, map}
use Rattle.std.specs.Option.{option_to_list}
use Rattle.std.specs.List.{flat_map}
use Rattle.vt_kinds.specs.declared.kind.Kind.{Kind}
use Rattle.vt_kinds.specs.declared.kind.Kind.TheVariants as kinds
use Rattle.vt_kinds.specs.declared.entries.MacroEntry.{MacroEntry}
use Rattle.vt_commands.specs.declared.command.Command.{Command}
use Rattle.vt_commands.specs.declared.command.Command.TheVariants.{ChangeActiveMask}
use Rattle.vt_commands.specs.declared.event.Event.TheVariants.{Hide, RunByName}
use Rattle.vt_commands.specs.declared.raising.Raised.{Raised}
use Rattle.vt_commands.specs.Events.{event_number, row_events}
use Rattle.vt_verify.specs.declared.listing.Listing.{Listing}
use Rattle.vt_stores.specs.Shapes.{Shape, Fixed, fixed_at}
use Rattle.vt_verify.specs.Macros.{may_be_named, commands}

abbrev pub listing : ℕ → ℕ → Listing
listing id event = record { id = id; event = event }

-- the listing of a raised event, by the event's number
abbrev pub listing_of : Raised → Listing
listing_of raised = listing raised.id (event_number raised.event)

-- the events of the command's row
abbrev pub row_listings : Command → List Listing
row_listings command = map listing_of (row_events command)

-- ---- the former mask of a Change Active Mask may be any mask

abbrev pub is_mask : Kind → Bool
is_mask kinds.DataMask = true
is_mask kinds.AlarmMask = true
is_mask kind = false

-- the masks of a pool, by rising ID
abbrev pub masks : Shape → List ℕ
masks shape = map (λ e. e.0) (filter (λ e. is_mask e.1.kind) shape)

abbrev pub changes_mask : Command → Bool
changes_mask (ChangeActiveMask set mask) = true
changes_mask command = false

abbrev pub hidden : Shape → Command → List Listing
hidden shape command = if changes_mask command then map (λ mask. listing mask (event_number Hide)) (masks shape) else []

-- the events that a command may raise
abbrev pub may_raise : Shape → Command → List Listing
may_raise shape command = hidden shape command ++ row_listings command

-- ---- the listed macros

-- the macros that entries list at an event
abbrev pub macros_at : ℕ → List MacroEntry → List ℕ
macros_at event entries = map (λ e. e.macro_id) (filter (λ e. e.event == event) entries)

-- the run of a macro by name is an event of itself, if its ID is at most 255
abbrev pub run_by_name : ℕ → Fixed → List ℕ
run_by_name id f = if may_be_named id f then id ∷ [] else []

-- the macros that run at an event of an object, in the order of its list
abbrev pub listed_in : ℕ → ℕ → Fixed → List ℕ
listed_in event id f = if event == event_number RunByName then run_by_name id f else macros_at event f.macros

-- whether a number is an event's number
abbrev pub is_event : ℕ → Bool
is_event event = nat_le event 26

-- the macros that run at an event
unfoldable pub listed : Shape → Listing → List ℕ
listed shape raised =
    if is_event raised.event then flat_map (listed_in raised.event raised.id) (option_to_list (fixed_at shape raised.id)) else []

abbrev pub triggered_by : Shape → Command → List ℕ
triggered_by shape command = flat_map (listed shape) (may_raise shape command)

-- the macros triggered by a macro
abbrev pub triggered : Shape → ℕ → List ℕ
triggered shape id = flat_map (triggered_by shape) (commands shape id)
