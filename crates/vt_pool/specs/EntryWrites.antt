-- Sets the object of an ID in a list of entries: replaces the ID's entry, or appends one.
use Rattle.std.specs.Prelude.{ℕ, List, [], ◌∷◌, ◌==◌, if◌then◌else◌}
use Rattle.vt_kinds.specs.Records.{Seen}
use Rattle.vt_pool.specs.Pools.{PoolEntry}

abbrev pub with_entry : List PoolEntry → ℕ → Seen → List PoolEntry
with_entry [] id o = (id, o) ∷ []
with_entry (e ∷ es) id o = if id == e.0 then (id, o) ∷ es else e ∷ with_entry es id o
