-- The events of objects and their numbers, which events macro entries may list, and the events that each command
-- raises (docs/PROFILE.md, "Event numbers", "What a command may raise").
use Rattle.std.specs.Prelude.{ℕ, Bool, nat_le, ◌&&◌, ◌==◌, if◌then◌else◌, List, [], ◌∷◌, Option, Some, None}
use Rattle.vt_commands.specs.declared.command.Command.{Command}
use Rattle.vt_commands.specs.declared.command.Command.TheVariants.{HideShow, EnableDisable, ChangeActiveMask}
use Rattle.vt_commands.specs.declared.event.Event.{Event}
use Rattle.vt_commands.specs.declared.event.Event.TheVariants as events
use Rattle.vt_commands.specs.declared.raising.Raised.{Raised}
use Rattle.vt_commands.specs.declared.row.Raises.{Raises}
use Rattle.vt_commands.specs.declared.row.Raises.TheVariants.{One, ByState, ActiveMask}
use Rattle.vt_commands.specs.Commands.{Columns, columns_at, function_of}
use Rattle.vt_commands.specs.Targets.{object_of}

abbrev pub event_number : Event → ℕ
event_number events.RunByName = 0
event_number events.Activate = 1
event_number events.Deactivate = 2
event_number events.Show = 3
event_number events.Hide = 4
event_number events.Enable = 5
event_number events.Disable = 6
event_number events.ActiveMask = 7
event_number events.SoftKeyMask = 8
event_number events.Attribute = 9
event_number events.BackgroundColour = 10
event_number events.Font = 11
event_number events.Line = 12
event_number events.Fill = 13
event_number events.ChildLocation = 14
event_number events.Size = 15
event_number events.Value = 16
event_number events.Priority = 17
event_number events.EndPoint = 18
event_number events.InputSelected = 19
event_number events.InputDeselected = 20
event_number events.Escape = 21
event_number events.EntryOfValue = 22
event_number events.EntryOfNewValue = 23
event_number events.KeyPress = 24
event_number events.KeyRelease = 25
event_number events.ChildPosition = 26

-- all events in the order of their numbers
abbrev pub every_event : List Event
every_event =
    events.RunByName ∷ events.Activate ∷ events.Deactivate ∷ events.Show ∷ events.Hide ∷ events.Enable ∷ events.Disable
    ∷ events.ActiveMask ∷ events.SoftKeyMask ∷ events.Attribute ∷ events.BackgroundColour ∷ events.Font ∷ events.Line
    ∷ events.Fill ∷ events.ChildLocation ∷ events.Size ∷ events.Value ∷ events.Priority ∷ events.EndPoint
    ∷ events.InputSelected ∷ events.InputDeselected ∷ events.Escape ∷ events.EntryOfValue ∷ events.EntryOfNewValue ∷ events.KeyPress
    ∷ events.KeyRelease ∷ events.ChildPosition ∷ []

abbrev pub event_among : List Event → ℕ → Option Event
event_among [] n = None
event_among (e ∷ es) n = if n == event_number e then Some e else event_among es n

-- the events that macro entries of objects may list; entries with other numbers never fire and are not checked
abbrev pub is_listable : ℕ → Bool
is_listable event = nat_le 1 event && nat_le event 26

-- the event with a number
abbrev pub event_at : ℕ → Option Event
event_at n = event_among every_event n

-- ---- the events that commands raise

abbrev pub raise : ℕ → Event → Raised
raise id event = record { id = id; event = event }

-- the second event for state 1, the first for state 0
abbrev pub by_state : ℕ → ℕ → Event → Event → List Raised
by_state id state off on = if state == 1 then raise id on ∷ [] else if state == 0 then raise id off ∷ [] else []

-- an event of the object of a command
abbrev pub on_object : Event → Option ℕ → List Raised
on_object event None = []
on_object event (Some id) = raise id event ∷ []

-- the events that a command raises by this column of its row: only a command with a state raises one of two, and only Change Active Mask
-- those of a change to another mask
abbrev pub raised_by : Raises → Command → List Raised
raised_by (One event) command = on_object event (object_of command)
raised_by (ByState off on) (HideShow id state) = by_state id state off on
raised_by (ByState off on) (EnableDisable id state) = by_state id state off on
raised_by ActiveMask (ChangeActiveMask set mask) = raise set events.ActiveMask ∷ raise mask events.Show ∷ []
raised_by raises command = []

abbrev pub raised_in : Option Columns → Command → List Raised
raised_in None command = []
raised_in (Some columns) command = raised_by columns.raises command

-- the events that a command raises by its row
abbrev pub row_events : Command → List Raised
row_events command = raised_in (columns_at (function_of command)) command
