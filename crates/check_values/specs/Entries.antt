-- The events that objects of each kind can have (ISO 11783-6; docs/PROFILE.md, "Warnings").
use Rattle.std.specs.Prelude.{ℕ, Bool, false, ◌==◌, ◌||◌, ◌&&◌, if◌then◌else◌, List, [], ◌∷◌, Option, Some, None}
use Rattle.std.specs.List.{list_any}
use Rattle.vt_commands.specs.declared.event.Event.{Event}
use Rattle.vt_commands.specs.declared.event.Event.TheVariants as events
use Rattle.vt_commands.specs.Events.{event_at}
use Rattle.vt_kinds.specs.declared.entries.MacroEntry.{MacroEntry}
use Rattle.vt_kinds.specs.declared.kind.Kind.{Kind}
use Rattle.vt_kinds.specs.Kinds.{kind_number}
use Rattle.vt_kinds.specs.Records.{Seen, kind_of, macros_of}
use Rattle.check_values.specs.Listed.{each_from}
use Rattle.check_values.specs.declared.warning.ValueWarning.{ValueWarning}
use Rattle.check_values.specs.declared.warning.ValueWarning.TheVariants as warnings

abbrev pub masks_and_containers : List ℕ
masks_and_containers = 1 ∷ 2 ∷ 3 ∷ 4 ∷ []

-- Buttons are inputs from version 4 on.
abbrev pub inputs_and_buttons : List ℕ
inputs_and_buttons = 6 ∷ 7 ∷ 8 ∷ 9 ∷ 10 ∷ []

abbrev pub parents : List ℕ
parents = 0 ∷ 1 ∷ 2 ∷ 3 ∷ 5 ∷ 6 ∷ []

-- the numbers of the kinds whose objects can have an event
abbrev pub kinds_with : Event → List ℕ
kinds_with events.RunByName = []
kinds_with events.Activate = 0 ∷ []
kinds_with events.Deactivate = 0 ∷ []
kinds_with events.Show = masks_and_containers
kinds_with events.Hide = masks_and_containers
kinds_with events.Enable = inputs_and_buttons
kinds_with events.Disable = inputs_and_buttons
kinds_with events.ActiveMask = 0 ∷ []
kinds_with events.SoftKeyMask = 1 ∷ 2 ∷ []
kinds_with events.Attribute =
    0 ∷ 1 ∷ 2 ∷ 3 ∷ 4 ∷ 5 ∷ 6 ∷ 7 ∷ 8 ∷ 9 ∷ 10 ∷ 11 ∷ 12 ∷ 13 ∷ 14 ∷ 15 ∷ 16 ∷ 17 ∷ 18 ∷ 19 ∷ 20 ∷ 23 ∷ 24 ∷ 25 ∷ 26 ∷ []
kinds_with events.BackgroundColour = 0 ∷ 1 ∷ 2 ∷ 4 ∷ 5 ∷ 6 ∷ 7 ∷ 8 ∷ 9 ∷ 11 ∷ 12 ∷ []
kinds_with events.Font = 23 ∷ []
kinds_with events.Line = 24 ∷ []
kinds_with events.Fill = 25 ∷ []
kinds_with events.ChildLocation = parents
kinds_with events.Size = 3 ∷ 6 ∷ 7 ∷ 8 ∷ 9 ∷ 10 ∷ 11 ∷ 12 ∷ 14 ∷ 15 ∷ 16 ∷ 17 ∷ 18 ∷ 19 ∷ 20 ∷ []
kinds_with events.Value = 7 ∷ 8 ∷ 9 ∷ 10 ∷ 11 ∷ 12 ∷ 17 ∷ 18 ∷ 19 ∷ []
kinds_with events.Priority = 2 ∷ []
kinds_with events.EndPoint = 13 ∷ []
kinds_with events.InputSelected = inputs_and_buttons
kinds_with events.InputDeselected = inputs_and_buttons
kinds_with events.Escape = inputs_and_buttons
kinds_with events.EntryOfValue = 7 ∷ 8 ∷ 9 ∷ 10 ∷ []
kinds_with events.EntryOfNewValue = 7 ∷ 8 ∷ 9 ∷ 10 ∷ []
kinds_with events.KeyPress = 5 ∷ 6 ∷ []
kinds_with events.KeyRelease = 5 ∷ 6 ∷ []
kinds_with events.ChildPosition = parents

-- events of later versions: of a touched Data Mask, and any event of an extended macro entry
abbrev pub is_later : Kind → ℕ → Bool
is_later kind event = event == 255 || (event == 27 || event == 28) && kind_number kind == 1

abbrev pub is_kind_with : Kind → Option Event → Bool
is_kind_with kind None = false
is_kind_with kind (Some event) = list_any (λ number. number == kind_number kind) (kinds_with event)

-- whether objects of a kind can have the event with a number
abbrev pub can_have : Kind → ℕ → Bool
can_have kind event = is_later kind event || is_kind_with kind (event_at event)

-- an entry for an event that a kind never has
abbrev pub unless_raised : ℕ → Kind → ℕ → MacroEntry → List ValueWarning
unless_raised id kind index entry = if can_have kind entry.event then [] else warnings.NeverRaised id index entry.event ∷ []

-- the macro entries of an object for events that its kind never has
abbrev pub never_raised : ℕ → Seen → List ValueWarning
never_raised id o = each_from (unless_raised id (kind_of o)) 0 (macros_of o)
