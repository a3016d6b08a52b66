-- The names of events (docs/PROFILE.md, "Event numbers").
use Rattle.std.specs.Prelude.{ℕ, List, codes, Option, Some, None}
use Rattle.vt_commands.specs.declared.event.Event.{Event}
use Rattle.vt_commands.specs.declared.event.Event.TheVariants as events
use Rattle.vt_commands.specs.Events.{event_at}

abbrev pub name_of : Event → List ℕ
name_of events.RunByName = codes "run by name"
name_of events.Activate = codes "activate"
name_of events.Deactivate = codes "deactivate"
name_of events.Show = codes "show"
name_of events.Hide = codes "hide"
name_of events.Enable = codes "enable"
name_of events.Disable = codes "disable"
name_of events.ActiveMask = codes "active mask"
name_of events.SoftKeyMask = codes "soft key mask"
name_of events.Attribute = codes "attribute"
name_of events.BackgroundColour = codes "background colour"
name_of events.Font = codes "font"
name_of events.Line = codes "line"
name_of events.Fill = codes "fill"
name_of events.ChildLocation = codes "child location"
name_of events.Size = codes "size"
name_of events.Value = codes "value"
name_of events.Priority = codes "priority"
name_of events.EndPoint = codes "end point"
name_of events.InputSelected = codes "input selected"
name_of events.InputDeselected = codes "input deselected"
name_of events.Escape = codes "ESC"
name_of events.EntryOfValue = codes "entry of value"
name_of events.EntryOfNewValue = codes "entry of new value"
name_of events.KeyPress = codes "key press"
name_of events.KeyRelease = codes "key release"
name_of events.ChildPosition = codes "child position"

abbrev pub name_if : Option Event → List ℕ
name_if None = codes "no event"
name_if (Some event) = name_of event

-- the name of the event with a number
abbrev pub event_name : ℕ → List ℕ
event_name number = name_if (event_at number)
