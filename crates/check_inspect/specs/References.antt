-- The references of objects with their positions, and those that fail a test (docs/PROFILE.md, "Places and their kinds",
-- "Pointers", "Macro entries", "Commands in macros").
use Rattle.std.specs.Prelude.{ℕ, ◌+◌, Bool, if◌then◌else◌, List, [], ◌∷◌, ◌++◌, map, Option, Some, None, slice_index}
use Rattle.std.specs.List.{flat_map}
use Rattle.vt_kinds.specs.declared.entries.MacroEntry.{MacroEntry}
use Rattle.vt_kinds.specs.declared.place.Place.{Place}
use Rattle.vt_kinds.specs.declared.slot.Slot.{Slot}
use Rattle.vt_kinds.specs.Records.{Seen}
use Rattle.vt_kinds.specs.References.{slots_of}
use Rattle.vt_stores.specs.Shapes.{Shape, Fixed, shape_of}
use Rattle.vt_stores.specs.Stores.{Objects, object_at}
use Rattle.vt_commands.specs.declared.command.Command.{Command}
use Rattle.vt_commands.specs.Events.{is_listable}
use Rattle.vt_commands.specs.Targets.{object_of, targets}
use Rattle.vt_verify.specs.declared.reference.Reference.{Reference}
use Rattle.vt_verify.specs.declared.reference.Test.{Test}
use Rattle.vt_verify.specs.declared.reference.Test.TheVariants.{IsThere, Fits}
use Rattle.vt_verify.specs.Macros.{Piece, named_macro, pieces_of, macro_command}
use Rattle.vt_verify.specs.References.{of_slot, pointed, passes}
use Rattle.vt_verify.specs.Targets.{of_target, kind_for, macro_reference}
use Rattle.check_inspect.specs.declared.finding.ReferenceAt.{ReferenceAt}
use Rattle.check_inspect.specs.declared.finding.Spot.{Spot}
use Rattle.check_inspect.specs.declared.finding.Spot.TheVariants as spots
use Rattle.check_inspect.specs.Lists.{all_failing}

abbrev pub at_spot : Spot → Reference → ReferenceAt
at_spot spot r = record { reference = r; spot = spot }

abbrev pub passes_at : Test → Shape → ReferenceAt → Bool
passes_at test shape r = passes test shape r.reference

-- ---- the references of slots

abbrev pub slot_at : ℕ → Slot → ReferenceAt
slot_at parent slot = at_spot (spots.Slot slot.place) (of_slot parent slot)

abbrev pub slots_at : ℕ × Seen → List ReferenceAt
slots_at e = map (slot_at e.0) (slots_of e.1)

-- the value of the pointer that a slot refers to
abbrev pub pointed_at : Objects → Place → Reference → List ReferenceAt
pointed_at objects place r = map (at_spot (spots.Through place r.id)) (pointed r (object_at objects r.id))

-- a slot, and the value of the pointer that it refers to
abbrev pub values_at : Objects → ℕ → Slot → List ReferenceAt
values_at objects parent slot =
    slot_at parent slot ∷ pointed_at objects slot.place (of_slot parent slot)

abbrev pub slot_values_at : Objects → ℕ × Seen → List ReferenceAt
slot_values_at objects e = flat_map (values_at objects e.0) (slots_of e.1)

-- the slots, by rising ID, that refer to a missing object
abbrev pub missing_at : Objects → List ReferenceAt
missing_at objects = all_failing (passes_at IsThere (shape_of objects)) (flat_map slots_at objects)

-- the slots, by rising ID, that refer to an object of a wrong kind, and those that refer to a pointer to such an object
abbrev pub wrong_kinds_at : Objects → List ReferenceAt
wrong_kinds_at objects = all_failing (passes_at Fits (shape_of objects)) (flat_map (slot_values_at objects) objects)

-- ---- the references of macro entries and of commands

abbrev pub entry_at : ℕ → ℕ → MacroEntry → List ReferenceAt
entry_at id index e = if is_listable e.event then at_spot (spots.Entry index e.event) (macro_reference id e.macro_id) ∷ [] else []

-- the references of entries from an index on; entries for events that cannot be listed are not checked
abbrev pub entries_at : ℕ → ℕ → List MacroEntry → List ReferenceAt
entries_at id index [] = []
entries_at id index (e ∷ es) = entry_at id index e ++ entries_at id (index + 1) es

-- the first byte of a macro command
abbrev pub function_of : List ℕ → ℕ
function_of bytes = slice_index bytes 0

abbrev pub command_targets : Shape → Piece → Option Command → List ReferenceAt
command_targets shape piece None = []
command_targets shape piece (Some command) =
    map (λ t. at_spot (spots.Command piece.at (function_of piece.bytes)) (of_target piece.id t)) (targets (kind_for shape (object_of command)) command)

-- the references of a macro command
abbrev pub targets_at : Shape → Piece → List ReferenceAt
targets_at shape piece = command_targets shape piece (macro_command piece.bytes)

-- the references of an object's entries, and then of its commands if it is a macro with whole bytes
abbrev pub own_references_at : Shape → ℕ × Fixed → List ReferenceAt
own_references_at shape e = entries_at e.0 0 e.1.macros ++ flat_map (targets_at shape) (flat_map pieces_of (named_macro e))

-- the references of entries and of commands, by rising ID, that fail a test
abbrev pub failing_targets_at : Test → Shape → List ReferenceAt
failing_targets_at test shape = all_failing (passes_at test shape) (flat_map (own_references_at shape) shape)
