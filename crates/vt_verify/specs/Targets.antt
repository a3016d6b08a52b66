-- The references of macro entries and of the commands of macros, and the kinds allowed for them (docs/PROFILE.md,
-- "Commands in macros", "Macro entries").
use Rattle.std.specs.Prelude.{ℕ, Bool, true, false, List, ◌++◌, filter, map, Option, Some, None, is_some}
use Rattle.std.specs.List.{flat_map}
use Rattle.vt_kinds.specs.declared.kind.Kind.{Kind}
use Rattle.vt_kinds.specs.declared.kinds.Kinds.TheVariants as sets
use Rattle.vt_kinds.specs.declared.entries.MacroEntry.{MacroEntry}
use Rattle.vt_commands.specs.declared.command.Command.{Command}
use Rattle.vt_commands.specs.declared.command.Command.TheVariants.{ChangeAttribute}
use Rattle.vt_commands.specs.declared.target.Target.{Target}
use Rattle.vt_kinds.specs.Attributes.{attribute_at}
use Rattle.vt_commands.specs.Events.{is_listable}
use Rattle.vt_commands.specs.Targets.{object_of, targets}
use Rattle.vt_verify.specs.declared.reference.Reference.{Reference}
use Rattle.vt_verify.specs.declared.macros.PieceTest.{PieceTest}
use Rattle.vt_verify.specs.declared.macros.PieceTest.TheVariants.{IsAllowed, HasAttribute}
use Rattle.vt_stores.specs.Shapes.{Shape, Fixed, kind_at}
use Rattle.vt_verify.specs.Macros.{Piece, commands_in, macro_command, is_allowed}

-- the reference to a macro with an ID of at most 255
abbrev pub macro_reference : ℕ → ℕ → Reference
macro_reference parent id = record { parent = parent; id = id; may_be_null = false; kinds = sets.Macros }

-- ---- the commands of macros

-- the reference of a target of a macro's command
abbrev pub of_target : ℕ → Target → Reference
of_target m target = record { parent = m; id = target.id; may_be_null = target.may_be_null; kinds = target.kinds }

-- the kind of the object of a command, or None if it is missing
abbrev pub kind_for : Shape → Option ℕ → Option Kind
kind_for shape None = None
kind_for shape (Some id) = kind_at shape id

-- The references of a macro's command, in the order of its bytes.
abbrev pub target_references : Shape → ℕ → Command → List Reference
target_references shape m command = map (of_target m) (targets (kind_for shape (object_of command)) command)

-- whether a kind has an attribute; true if the object is missing
abbrev pub kind_has : Option Kind → ℕ → Bool
kind_has None number = true
kind_has (Some kind) number = is_some (attribute_at kind number)

abbrev pub command_has_attribute : Shape → Option Command → Bool
command_has_attribute shape (Some (ChangeAttribute id number value)) = kind_has (kind_at shape id) number
command_has_attribute shape command = true

abbrev pub has_attribute : Shape → Piece → Bool
has_attribute shape piece = command_has_attribute shape (macro_command piece.bytes)

abbrev pub piece_passes : PieceTest → Shape → Piece → Bool
piece_passes IsAllowed shape piece = is_allowed piece
piece_passes HasAttribute shape piece = has_attribute shape piece

-- ---- all references of entries and commands

-- the references of entries; entries for events that cannot be listed are not checked
abbrev pub entry_references : ℕ → List MacroEntry → List Reference
entry_references id entries = map (λ e. macro_reference id e.macro_id) (filter (λ e. is_listable e.event) entries)

abbrev pub command_references : Shape → ℕ → Fixed → List Reference
command_references shape id f = flat_map (target_references shape id) (commands_in id f)

abbrev pub own_references : Shape → ℕ × Fixed → List Reference
own_references shape e = entry_references e.0 e.1.macros ++ command_references shape e.0 e.1

-- the references of all objects by rising ID, in an object its entries and then its commands
abbrev pub macro_references : Shape → List Reference
macro_references shape = flat_map (own_references shape) shape
