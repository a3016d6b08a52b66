-- Stores with an object for each missing ID (docs/PROFILE.md, "Inclusions and chains").
use Rattle.std.specs.Prelude.{◌≡◌, ◌≢◌, ◌<◌, ℕ, List, eqb, Contains}
use Rattle.std.specs.List.{IsDistinct}
use Rattle.vt_kinds.specs.Ids.{null_id}
use Rattle.vt_kinds.specs.Records.{Seen}
use Rattle.vt_kinds.specs.declared.object.Object.TheVariants as objects
use Rattle.vt_chains.specs.Depths.{IsClosed}
use Rattle.vt_chains.specs.Inclusions.{included}
use Rattle.vt_stores.specs.Stores.{Objects, ids}
use Rattle.check_inspect.specs.declared.finding.ReferenceAt.{ReferenceAt}

-- Objects with the same inclusions, of which all exist.
pub record ClosesObjects (objects closed : Objects) : Type 0 where
  pub same : (id : ℕ) → included closed id ≡ included objects id
  pub there : IsClosed (ids closed) (included closed)

-- an object under an ID that includes nothing
abbrev pub empty_at : ℕ → ℕ × Seen
empty_at id = (id, objects.NumberVariable (record { value = 0 }))

-- the IDs of references, each once, without NULL
pub record AreMissingIds (absent : List ReferenceAt) (missing : List ℕ) : Type 0 where
  pub distinct : IsDistinct eqb missing
  pub only : (id : ℕ) → Contains missing id → (id < null_id) × ((r : ReferenceAt) × Contains absent r × (r.reference.id ≡ id))
  pub all : (r : ReferenceAt) → Contains absent r → r.reference.id ≢ null_id → Contains missing r.reference.id
