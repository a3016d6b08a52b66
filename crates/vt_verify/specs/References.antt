-- The references of objects and the kinds allowed for them (docs/PROFILE.md, "Places and their kinds", "Pointers").
use Rattle.std.specs.Prelude.{ℕ, Bool, true, nat_le, ◌&&◌, ◌==◌, if◌then◌else◌, List, [], ◌∷◌, map, Option, Some, None, is_some}
use Rattle.std.specs.List.{flat_map}
use Rattle.vt_kinds.specs.declared.kind.Kind.{Kind}
use Rattle.vt_kinds.specs.declared.kinds.Kinds.{Kinds}
use Rattle.vt_kinds.specs.declared.kinds.Kinds.TheVariants as sets
use Rattle.vt_kinds.specs.declared.slot.Slot.{Slot}
use Rattle.vt_kinds.specs.declared.object.Object.TheVariants as objects
use Rattle.vt_kinds.specs.Ids.{null_id}
use Rattle.vt_kinds.specs.Records.{Seen}
use Rattle.vt_kinds.specs.References.{slots_of, is_member}
use Rattle.vt_verify.specs.declared.reference.Reference.{Reference}
use Rattle.vt_verify.specs.declared.reference.Test.{Test}
use Rattle.vt_verify.specs.declared.reference.Test.TheVariants.{IsThere, Fits, Stands}
use Rattle.vt_stores.specs.Shapes.{Shape, kind_at}
use Rattle.vt_stores.specs.Stores.{Objects, object_at}

-- ---- tests of a reference

-- NULL, where NULL is allowed, or the ID of an existing object
abbrev pub is_there : Shape → Reference → Bool
is_there shape r = if r.id == null_id then r.may_be_null else is_some (kind_at shape r.id)

-- macros with IDs above 255 are not allowed as sets.Macros
abbrev pub may_refer : Kinds → ℕ → Kind → Bool
may_refer sets.Macros id kind = is_member sets.Macros kind && nat_le id 255
may_refer kinds id kind = is_member kinds kind

abbrev pub allows : Kinds → ℕ → Option Kind → Bool
allows kinds id None = true
allows kinds id (Some kind) = may_refer kinds id kind

-- an object of an allowed kind; NULL and missing objects pass
abbrev pub fits : Shape → Reference → Bool
fits shape r = if r.id == null_id then true else allows r.kinds r.id (kind_at shape r.id)

abbrev pub passes_both : Shape → Reference → Bool
passes_both shape r = is_there shape r && fits shape r

abbrev pub passes : Test → Shape → Reference → Bool
passes IsThere shape r = is_there shape r
passes Fits shape r = fits shape r
passes Stands shape r = passes_both shape r

-- ---- the references of slots

abbrev pub of_slot : ℕ → Slot → Reference
of_slot parent slot = record { parent = parent; id = slot.id; may_be_null = slot.null; kinds = slot.kinds }

-- the slots of an object
abbrev pub slot_references : ℕ × Seen → List Reference
slot_references e = map (of_slot e.0) (slots_of e.1)

-- all slots, by rising ID
abbrev pub references : Objects → List Reference
references objects = flat_map slot_references objects

-- A referenced pointer's value has to fit in place of the pointer.
abbrev pub pointed : Reference → Option Seen → List Reference
pointed r (Some (objects.ObjectPointer pointer)) = record r { id = pointer.value } ∷ []
pointed r _ = []

abbrev pub with_value : Objects → Reference → List Reference
with_value objects r = r ∷ pointed r (object_at objects r.id)

-- the references of an object's slots, each followed by the value of a referenced pointer
abbrev pub slot_values : Objects → ℕ × Seen → List Reference
slot_values objects e = flat_map (with_value objects) (slot_references e)
