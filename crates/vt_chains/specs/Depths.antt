-- The depth of an object: the greatest number of inclusions in a chain that begins with it.
use Rattle.std.specs.Prelude.{◌≡◌, ◌≢◌, ◌≤◌, ◌<◌, ◌+◌, ℕ, suc, List, length, slice_get, slice_index, Some, Contains}
use Rattle.std.specs.FinMap as finite
use Rattle.vt_stores.specs.Stores.{ObjectMap, Objects, ids, map_of}
use Rattle.vt_chains.specs.declared.limits.Limits.{Limits}
use Rattle.vt_chains.specs.Inclusions.{included, IsChain}

-- the IDs of a store, by rising ID, and the inclusions of the object of each ID
abbrev pub ids_of : ObjectMap → List ℕ
ids_of store = ids (finite.entries store)

abbrev pub inclusions_of : ObjectMap → ℕ → List ℕ
inclusions_of store = included (finite.entries store)

-- an ID is at an index
abbrev pub IsIdAt : List ℕ → ℕ → ℕ → Type 0
IsIdAt ids index id = slice_get ids index ≡ Some id

-- an ID is at an index with this depth
pub record IsAtDepth (ids depths : List ℕ) (id depth : ℕ) : Type 0 where
  pub index : ℕ
  pub there : IsIdAt ids index id
  pub is : slice_index depths index ≡ depth

-- an ID is at an index with less than this depth
pub record IsBelow (ids depths : List ℕ) (id most : ℕ) : Type 0 where
  pub index : ℕ
  pub there : IsIdAt ids index id
  pub less : slice_index depths index < most

-- each included ID is at an index
abbrev pub IsClosed : List ℕ → (ℕ → List ℕ) → Type 0
IsClosed ids included = (id other : ℕ) → Contains (included id) other → (index : ℕ) × IsIdAt ids index other

-- the depth of an ID: one more than the greatest depth of its inclusions
pub record IsDepth (ids : List ℕ) (included : ℕ → List ℕ) (depths : List ℕ) (id depth : ℕ) : Type 0 where
  pub above : (other : ℕ) → Contains (included id) other → IsBelow ids depths other depth
  pub reached : (less : ℕ) → depth ≡ suc less → (other : ℕ) × Contains (included id) other × IsAtDepth ids depths other less

-- the depths of all IDs, at most this
pub record AreDepths (ids : List ℕ) (included : ℕ → List ℕ) (most : ℕ) (depths : List ℕ) : Type 0 where
  pub each : length depths ≡ length ids
  pub within : (index : ℕ) → slice_index depths index ≤ most
  pub depth : (index id : ℕ) → IsIdAt ids index id → IsDepth ids included depths id (slice_index depths index)

-- the depths of objects by rising ID, within the limit of inclusions in a chain
abbrev pub HasDepths : Limits → Objects → List ℕ → Type 0
HasDepths limits objects depths = AreDepths (ids_of (map_of objects)) (inclusions_of (map_of objects)) limits.inclusions depths

-- ---- during the search for depths

-- marks a depth not yet found
abbrev pub unset : ℕ
unset = 255

-- the depths found so far
pub record AreDepthsSoFar (ids : List ℕ) (included : ℕ → List ℕ) (depths : List ℕ) : Type 0 where
  pub each : length depths ≡ length ids
  pub within : (index : ℕ) → slice_index depths index ≤ unset
  pub found : (index id : ℕ) → IsIdAt ids index id → slice_index depths index ≢ unset → IsDepth ids included depths id (slice_index depths index)

-- found depths are unchanged
abbrev pub KeepsDepths : List ℕ → List ℕ → Type 0
KeepsDepths old new = (index : ℕ) → slice_index old index ≢ unset → slice_index new index ≡ slice_index old index

-- a chain of `count` inclusions that begins with an ID
pub record BeginsChain (included : ℕ → List ℕ) (id count : ℕ) (chain : List ℕ) : Type 0 where
  pub is : IsChain included chain
  pub first : slice_get chain 0 ≡ Some id
  pub long : length chain ≡ count + 1

-- a chain of `count` inclusions that begins with an inclusion of an ID
abbrev pub IncludesChain : (ℕ → List ℕ) → ℕ → ℕ → List ℕ → Type 0
IncludesChain included id count chain = (other : ℕ) × Contains (included id) other × BeginsChain included other count chain
