-- The rows of the table of commands (docs/PROFILE.md, "Commands: all rows"), against the other tables of commands.
use Rattle.std.specs.Prelude.{◌≡◌, ◌⊎◌, ℕ, [], ◌∷◌, map, Option, Some}
use Rattle.vt_commands.specs.declared.command.Command.{Command}
use Rattle.vt_commands.specs.declared.command.Command.TheVariants.{HideShow, EnableDisable, ChangeActiveMask}
use Rattle.vt_commands.specs.declared.event.Event.{Event}
use Rattle.vt_commands.specs.declared.event.Event.TheVariants as events
use Rattle.vt_commands.specs.declared.row.Raises.{Raises}
use Rattle.vt_commands.specs.declared.row.Raises.TheVariants.{Nothing, One, ByState, ActiveMask}
use Rattle.vt_commands.specs.declared.row.CommandRow.{CommandRow}
use Rattle.vt_commands.specs.Commands.{Columns, columns_at, function_of}
use Rattle.vt_commands.specs.Events.{raise, by_state, row_events}
use Rattle.vt_commands.specs.Targets.{object_of}

-- the columns of a row
abbrev pub columns : CommandRow → Columns
columns row = record { object_at = row.object_at; error_at = row.error_at; raises = row.raises; bits = map (λ refusal. refusal.0) row.refusals.now }

-- A command raises what its row says: nothing, an event of its object, one of two by its state, or those of a change to another mask.
pub data RaisesBy (command : Command) : Raises → Type 0 where
  nothing : row_events command ≡ [] → RaisesBy command Nothing
  one : {id : ℕ} {event : Event} → object_of command ≡ Some id → row_events command ≡ raise id event ∷ [] → RaisesBy command (One event)
  of_state : {id state : ℕ} {off on : Event} → (command ≡ HideShow id state) ⊎ (command ≡ EnableDisable id state)
      → row_events command ≡ by_state id state off on → RaisesBy command (ByState off on)
  active_mask : {set mask : ℕ} → command ≡ ChangeActiveMask set mask
      → row_events command ≡ raise set events.ActiveMask ∷ raise mask events.Show ∷ [] → RaisesBy command ActiveMask

-- a row is there, and the command raises what it says
pub data HasRow (command : Command) : Option Columns → Type 0 where
  has : {columns : Columns} → RaisesBy command columns.raises → HasRow command (Some columns)

-- Each command has a row, which says what the command raises.
abbrev pub EachCommandHasItsRow : Type 0
EachCommandHasItsRow = (command : Command) → HasRow command (columns_at (function_of command))
