-- Marks of the objects of a store, at the index of each object by rising ID.
use Rattle.std.specs.Prelude.{◌≡◌, ◌⊎◌, ℕ, Bool, true, false, List, length, slice_index_or}
use Rattle.std.specs.FinMap as finite
use Rattle.vt_stores.specs.Stores.{ObjectMap}
use Rattle.vt_chains.specs.Depths.{ids_of, IsIdAt}
use Rattle.vt_shown.specs.ShownElements.{drawn_in, IsResolved, IsShown}

-- the object of an ID is marked
pub record IsMarked (store : ObjectMap) (marks : List Bool) (id : ℕ) : Type 0 where
  pub index : ℕ
  pub there : IsIdAt (ids_of store) index id
  pub set : slice_index_or marks index false ≡ true

-- The mask shows each marked object.
pub record AreSomeShown (store : ObjectMap) (mask : ℕ) (marks : List Bool) : Type 0 where
  pub each : length marks ≡ length (ids_of store)
  pub shown : (id : ℕ) → IsMarked store marks id → IsShown store mask id

-- The marked objects are those that a mask shows.
pub record AreShown (store : ObjectMap) (mask : ℕ) (marks : List Bool) : Type 0 where
  pub each : length marks ≡ length (ids_of store)
  pub shown : (id : ℕ) → IsMarked store marks id → IsShown store mask id
  pub marked : (id : ℕ) → IsShown store mask id → IsMarked store marks id

-- ---- during a search

-- the elements that an object draws are marked
abbrev pub HasDrawingMarked : ObjectMap → List Bool → ℕ → Type 0
HasDrawingMarked store marks id = (other : ℕ) → IsResolved store (drawn_in store (finite.get store id)) other → IsMarked store marks other

-- A whole search from listed IDs: it marks the elements that they resolve to, and those that each newly marked object draws.
pub record Searched (store : ObjectMap) (ids : List ℕ) (old new : List Bool) : Type 0 where
  pub kept : (id : ℕ) → IsMarked store old id → IsMarked store new id
  pub added : (element : ℕ) → IsResolved store ids element → IsMarked store new element
  pub drawn : (id : ℕ) → IsMarked store new id → IsMarked store old id ⊎ HasDrawingMarked store new id

-- A search from listed IDs, whole or not, marks only objects that a mask shows, if the mask shows the elements that the IDs
-- resolve to.
abbrev pub MarksShown : ObjectMap → List ℕ → List Bool → List Bool → Type 0
MarksShown store ids old new = (mask : ℕ) → ((element : ℕ) → IsResolved store ids element → IsShown store mask element) → AreSomeShown store mask old → AreSomeShown store mask new
