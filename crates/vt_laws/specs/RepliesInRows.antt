-- The replies to commands against the rows of the table of commands (docs/PROFILE.md, "Commands: all rows").
use Rattle.std.specs.Prelude.{◌≡◌, ℕ, List, take, drop, slice_get, Option, Some, None}
use Rattle.byteorder.specs.Endian.{little_bytes}
use Rattle.vt_commands.specs.declared.command.Command.{Command}
use Rattle.vt_commands.specs.declared.command.Command.TheVariants.{ChangeActiveMask}
use Rattle.vt_commands.specs.Commands.{Columns, columns_at, function_of}
use Rattle.vt_commands.specs.Targets.{object_of}
use Rattle.vt_server.specs.message.CommandReplies.{command_reply}

-- the object that the reply to a command names: the one that the command changes, but for Change Active Mask the new mask
abbrev pub replied_object : Command → Option ℕ
replied_object (ChangeActiveMask set mask) = Some mask
replied_object command = object_of command

-- a reply has the ID of an object at an index; or there is neither an object nor an index
pub data HasObjectAt (reply : List ℕ) : Option ℕ → Option ℕ → Type 0 where
  neither : HasObjectAt reply None None
  at : {id index : ℕ} → take 2 (drop index reply) ≡ little_bytes 2 id → HasObjectAt reply (Some id) (Some index)

-- a reply has the error byte and the object where the columns say
pub data FitsColumns (reply : List ℕ) (error : ℕ) (object : Option ℕ) : Option Columns → Type 0 where
  fits : {columns : Columns} → slice_get reply columns.error_at ≡ Some error → HasObjectAt reply object columns.object_at
      → FitsColumns reply error object (Some columns)

-- Each reply to a command has its error byte and its object where the row of the command says.
abbrev pub RepliesFitTheirRows : Type 0
RepliesFitTheirRows = (command : Command) (error : ℕ)
    → FitsColumns (command_reply command error) error (replied_object command) (columns_at (function_of command))
