-- The masks of a pool.
use Rattle.std.specs.Prelude.{ℕ, List, [], ◌∷◌, Option, Some}
use Rattle.std.specs.List.{flat_map}
use Rattle.vt_kinds.specs.declared.kind.Kind.{Kind}
use Rattle.vt_kinds.specs.declared.kind.Kind.TheVariants as kinds
use Rattle.vt_kinds.specs.declared.object.Object.TheVariants as objects
use Rattle.vt_kinds.specs.Records.{Seen, kind_of}
use Rattle.vt_stores.specs.Stores.{Objects}

-- the ID of a data mask or an alarm mask
abbrev pub mask_of : ℕ → Kind → List ℕ
mask_of id kinds.DataMask = id ∷ []
mask_of id kinds.AlarmMask = id ∷ []
mask_of id _ = []

-- the IDs of all data masks and alarm masks, in the order of the objects
abbrev pub masks_of : Objects → List ℕ
masks_of pool = flat_map (λ e. mask_of e.0 (kind_of e.1)) pool

-- the ID of a working set and that of its active mask; for another object what was found before
abbrev pub set_or : Option (ℕ × ℕ) → ℕ → Seen → Option (ℕ × ℕ)
set_or before id (objects.WorkingSet o) = Some (id, o.active_mask)
set_or before id _ = before

-- the last working set of some objects, and its active mask; without one what was found before
abbrev pub last_set : Option (ℕ × ℕ) → Objects → Option (ℕ × ℕ)
last_set before [] = before
last_set before (e ∷ rest) = last_set (set_or before e.0 e.1) rest
