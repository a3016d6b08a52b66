-- The error byte of a refused command has one bit, and the row of the command in the table of commands has that bit (docs/PROFILE.md,
-- "Commands: all rows").
use Rattle.std.specs.Prelude.{◌≡◌, ℕ, Contains, Option, Some, Err}
use Rattle.vt_stores.specs.Stores.{ObjectMap}
use Rattle.vt_commands.specs.declared.command.Command.{Command}
use Rattle.vt_commands.specs.Commands.{Columns, columns_at, function_of}
use Rattle.vt_effects.specs.Errors.{bit}
use Rattle.vt_effects.specs.Effects.{effect}

-- some columns have the bit of an error byte
pub data HasBit : Option Columns → ℕ → Type 0 where
  has : {columns : Columns} {n : ℕ} → Contains columns.bits n → HasBit (Some columns) (bit n)

abbrev pub RefusalsAreInTheirRows : Type 0
RefusalsAreInTheirRows = (store : ObjectMap) (command : Command) (error : ℕ) → effect store command ≡ Err error → HasBit (columns_at (function_of command)) error
