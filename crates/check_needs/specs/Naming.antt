-- The IDs that the objects of a pool name (docs/PROFILE.md, "Warnings").
use Rattle.std.specs.Prelude.{ℕ, Bool, true, false, ◌||◌, ◌==◌, List, ◌++◌, map, slice_index_or}
use Rattle.std.specs.List.{flat_map, list_any}
use Rattle.vt_kinds.specs.declared.kind.Kind.{Kind}
use Rattle.vt_kinds.specs.declared.kind.Kind.TheVariants as kinds
use Rattle.vt_kinds.specs.Records.{Seen}
use Rattle.vt_kinds.specs.References.{slots_of}
use Rattle.vt_stores.specs.Shapes.{Shape, shape_of, fixed}
use Rattle.vt_stores.specs.Stores.{Objects}
use Rattle.vt_verify.specs.Targets.{own_references}
use Rattle.check_needs.specs.declared.id_set.IdSet.{IdSet}

-- ---- the IDs that an object names

-- the IDs in the slots of an object, NULL too
abbrev pub slot_ids : Seen → List ℕ
slot_ids o = map (λ slot. slot.id) (slots_of o)

-- the IDs in the macro entries of an object and in its commands
abbrev pub macro_ids : Shape → ℕ × Seen → List ℕ
macro_ids shape e = map (λ r. r.id) (own_references shape (e.0, fixed e.1))

abbrev pub ids_named : Shape → ℕ × Seen → List ℕ
ids_named shape e = slot_ids e.1 ++ macro_ids shape e

-- all IDs that objects name
unfoldable pub names : Objects → List ℕ
names objects = flat_map (ids_named (shape_of objects)) objects

abbrev pub is_among : ℕ → List ℕ → Bool
is_among id ids = list_any (λ other. other == id) ids

-- The kinds that messages of an implement select: no object needs to name a working set, a data mask or an alarm mask.
abbrev pub is_selected : Kind → Bool
is_selected kinds.WorkingSet = true
is_selected kinds.DataMask = true
is_selected kinds.AlarmMask = true
is_selected kind = false

-- ---- sets of IDs

abbrev pub has : IdSet → ℕ → Bool
has set id = slice_index_or set.marks.items id false

-- an ID is in a set or in a list
abbrev pub has_with : IdSet → List ℕ → ℕ → Bool
has_with set ids id = has set id || is_among id ids
