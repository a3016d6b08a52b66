-- A store as a finite map from IDs to objects: its construction, its lookups and its writes.
use Rattle.std.specs.Prelude.{◌≡◌, ◌<◌, ℕ, List, map, eqb, Option, Some, None, IsTrue, slice_get}
use Rattle.std.specs.List.{IsDistinct, All}
use Rattle.std.specs.Ordering.{nat_cmp}
use Rattle.std.specs.FinMap as finite
use Rattle.vt_kinds.specs.declared.object.Object.{Object}
use Rattle.vt_kinds.specs.Ids.{null_id}
use Rattle.vt_kinds.specs.Records.{Seen, seen}

-- objects under their IDs
abbrev pub Objects : Type 0
Objects = List (ℕ × Seen)

abbrev pub seen_entry : {B : Type 0} → ℕ × Object B → ℕ × Seen
seen_entry e = (e.0, seen e.1)

abbrev pub ids : Objects → List ℕ
ids objects = map (λ e. e.0) objects

-- IDs are unique, and none is NULL
pub record AreNamed (objects : Objects) : Type 0 where
  pub distinct : IsDistinct eqb (ids objects)
  pub named : All (λ id. id < null_id) (ids objects)

-- ---- objects by rising ID

-- objects by rising ID; the first one counts for a repeated ID
unfoldable pub by_rising_id : Objects → Objects
by_rising_id entries = finite.entries (finite.from_entries {R = nat_cmp} entries)

-- IDs rise strictly
abbrev pub IsRising : Objects → Type 0
IsRising objects = IsTrue (finite.is_sorted nat_cmp objects)

-- IDs rise strictly, and none is NULL
pub record AreStored (objects : Objects) : Type 0 where
  pub rising : IsRising objects
  pub named : AreNamed objects

-- the object of an ID
abbrev pub object_at : Objects → ℕ → Option Seen
object_at objects id = finite.find nat_cmp id objects

-- the object of an ID is at an index
pub record IsPlace (objects : Objects) (id place : ℕ) : Type 0 where
  pub object : Seen
  pub there : slice_get objects place ≡ Some (id, object)
  pub found : object_at objects id ≡ Some object

-- ---- the map from IDs to objects

abbrev pub ObjectMap : Type 0
ObjectMap = finite.FinMap nat_cmp Seen

-- the map of objects by rising ID
abbrev pub map_of : Objects → ObjectMap
map_of objects = finite.from_sorted objects

-- the map of a list of objects under their IDs; the first one counts for a repeated ID
abbrev pub contents_of : {B : Type 0} → List (ℕ × Object B) → ObjectMap
contents_of es = finite.from_entries (map seen_entry es)

abbrev pub replaced : Option Seen → ObjectMap → ℕ → Seen → ObjectMap
replaced None m id o = m
replaced (Some old) m id o = finite.insert m id o

-- replaces the object of an ID; without effect for a missing ID
abbrev pub with_object : ObjectMap → ℕ → Seen → ObjectMap
with_object m id o = replaced (finite.get m id) m id o
