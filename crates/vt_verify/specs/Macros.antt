-- The macros with IDs up to 255 and their commands (docs/PROFILE.md, "A macro's bytes", "Commands in macros").
use Rattle.std.specs.Prelude.{ℕ, ◌+◌, Bool, true, false, nat_le, ◌&&◌, if◌then◌else◌, List, [], ◌∷◌, length, map, Option, Some, None, is_some}
use Rattle.std.specs.Option.{option_to_list}
use Rattle.std.specs.List.{flat_map}
use Rattle.vt_kinds.specs.declared.kind.Kind.{Kind}
use Rattle.vt_kinds.specs.declared.kind.Kind.TheVariants as kinds
use Rattle.vt_commands.specs.declared.command.Command.{Command}
use Rattle.vt_commands.specs.declared.command.Command.TheVariants.{DeletePool}
use Rattle.vt_commands.specs.Commands.{command_at}
use Rattle.vt_commands.specs.Pieces.{cut}
use Rattle.vt_stores.specs.Shapes.{Shape, Fixed, fixed_at}

abbrev pub is_macro : Kind → Bool
is_macro kinds.Macro = true
is_macro kind = false

-- macros with IDs above 255 cannot be referenced by entries or commands
abbrev pub may_be_named : ℕ → Fixed → Bool
may_be_named id f = is_macro f.kind && nat_le id 255

-- the bytes of a macro with an ID of at most 255
abbrev pub macro_bytes_in : ℕ → Fixed → Option (List ℕ)
macro_bytes_in id f = if may_be_named id f then Some f.bytes else None

-- ---- the commands of a macro

abbrev pub but_delete_pool : Option Command → Option Command
but_delete_pool (Some DeletePool) = None
but_delete_pool command = command

-- the command of one macro command's bytes; None for Delete Object Pool, which macros may not have
abbrev pub macro_command : List ℕ → Option Command
macro_command piece = but_delete_pool (command_at piece)

-- the bytes of one macro command, with the ID of its macro and the offset in the macro's bytes
pub record Piece : Type 0 where
  pub id : ℕ
  pub at : ℕ
  pub bytes : List ℕ

abbrev pub with_offsets : ℕ → ℕ → List (List ℕ) → List Piece
with_offsets id at [] = []
with_offsets id at (bytes ∷ pieces) = record { id = id; at = at; bytes = bytes } ∷ with_offsets id (at + length bytes) pieces

-- the bytes cut into macro commands; none if they cannot be cut
unfoldable pub cut_or_none : List ℕ → List (List ℕ)
cut_or_none bytes = flat_map (λ pieces. pieces) (option_to_list (cut bytes))

unfoldable pub commands_of : List ℕ → List Command
commands_of bytes = flat_map (λ piece. option_to_list (macro_command piece)) (cut_or_none bytes)

-- ---- all macros with IDs up to 255, by rising ID

abbrev pub named_macro : ℕ × Fixed → List (ℕ × List ℕ)
named_macro e = map (λ bytes. (e.0, bytes)) (option_to_list (macro_bytes_in e.0 e.1))

abbrev pub macros : Shape → List (ℕ × List ℕ)
macros shape = flat_map named_macro shape

-- the bytes of a macro end with a whole command
abbrev pub is_whole : ℕ × List ℕ → Bool
is_whole m = is_some (cut m.1)

abbrev pub pieces_of : ℕ × List ℕ → List Piece
pieces_of m = with_offsets m.0 0 (cut_or_none m.1)

abbrev pub pieces : Shape → List Piece
pieces shape = flat_map pieces_of (macros shape)

abbrev pub is_allowed : Piece → Bool
is_allowed piece = is_some (macro_command piece.bytes)

-- ---- the commands of the macro under an ID

abbrev pub commands_in : ℕ → Fixed → List Command
commands_in id f = flat_map commands_of (option_to_list (macro_bytes_in id f))

unfoldable pub commands : Shape → ℕ → List Command
commands shape id = flat_map (commands_in id) (option_to_list (fixed_at shape id))
