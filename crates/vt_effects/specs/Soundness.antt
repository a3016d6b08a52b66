-- The order of a store's references and chains (docs/PROFILE.md, "What every store keeps").
use Rattle.std.specs.Prelude.{◌≡◌, ℕ, Bool, true, ◌==◌, ◌&&◌, if◌then◌else◌, Option, Some, None, IsTrue}
use Rattle.std.specs.List.{AllByRecursion}
use Rattle.std.specs.FinMap as finite
use Rattle.vt_kinds.specs.declared.slot.Slot.{Slot}
use Rattle.vt_commands.specs.declared.command.Command.{Command}
use Rattle.vt_kinds.specs.Ids.{null_id}
use Rattle.vt_kinds.specs.Records.{Seen}
use Rattle.vt_kinds.specs.References.{slots_of}
use Rattle.vt_stores.specs.Shapes.{Shape, shape_of}
use Rattle.vt_stores.specs.Stores.{ObjectMap}
use Rattle.vt_chains.specs.Depths.{inclusions_of}
use Rattle.vt_chains.specs.Inclusions.{IsShallow}
use Rattle.vt_chains.specs.Limits.{terminal}
use Rattle.vt_effects.specs.Changes.{is_one_of}
use Rattle.vt_effects.specs.Effects.{kind_in, pointer_value, allows, after}

-- a pointer's value fits in place of the pointer
abbrev pub value_fits : ObjectMap → Slot → Option ℕ → Bool
value_fits store slot None = true
value_fits store slot (Some value) = allows store slot value

-- NULL, where NULL is allowed, or an object of an allowed kind; for a pointer, its value too
abbrev pub is_in_order : ObjectMap → Slot → Bool
is_in_order store slot =
    if slot.id == null_id
    then slot.null
    else is_one_of slot.kinds (kind_in store slot.id) && value_fits store slot (pointer_value (finite.get store slot.id))

-- All references of all objects are in order, and no chain has more inclusions than the terminal allows.
pub record IsSound (store : ObjectMap) : Type 0 where
  pub slots : (id : ℕ) (o : Seen) → finite.get store id ≡ Some o → AllByRecursion (λ slot. IsTrue (is_in_order store slot)) (slots_of o)
  pub shallow : IsShallow terminal.inclusions (inclusions_of store)

-- the shape of a store, which no command changes
unfoldable pub shape_in : ObjectMap → Shape
shape_in store = shape_of (finite.entries store)

-- No command breaks the order of a store.
abbrev pub CommandsKeepOrder : Type 0
CommandsKeepOrder = (store : ObjectMap) (command : Command) → IsSound store → IsSound (after store command)

-- No command changes the shape of a store: its IDs, and the kind, the macro entries and the macro bytes of each object.
abbrev pub CommandsKeepShapes : Type 0
CommandsKeepShapes = (store : ObjectMap) (command : Command) → shape_in (after store command) ≡ shape_in store
