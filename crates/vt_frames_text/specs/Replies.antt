-- Where the replies of a terminal have their error byte (docs/PROFILE.md, "Commands: all rows", "End of Object Pool (12)").
use Rattle.std.specs.Prelude.{◌==◌, ℕ, if◌then◌else◌, Option, None, Some, List, [], ◌∷◌}
use Rattle.std.specs.List.{slice_get}
use Rattle.vt_can.specs.Assigned.{END_OF_POOL}
use Rattle.vt_commands.specs.Commands.{Columns, columns_at}

-- the index of the error byte in the reply of a function that may be a command's
abbrev pub error_place_in : Option Columns → ℕ → Option ℕ
error_place_in (Some columns) function = Some columns.error_at
error_place_in None function = if function == END_OF_POOL then Some 1 else None

-- the index of the error byte in the reply of a function
abbrev pub error_place : ℕ → Option ℕ
error_place function = error_place_in (columns_at function) function

-- the error byte at its place
abbrev pub error_at : List ℕ → Option ℕ → Option ℕ
error_at message None = None
error_at message (Some place) = slice_get message place

-- the error byte of a reply
abbrev pub error_in : List ℕ → Option ℕ
error_in [] = None
error_in (function ∷ rest) = error_at (function ∷ rest) (error_place function)
