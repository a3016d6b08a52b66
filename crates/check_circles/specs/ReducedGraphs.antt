-- Graphs with the same triggers and at most one item for each node, and the marks of nodes that they are made from.
use Rattle.std.specs.Prelude.{◌≡◌, ℕ, ◌≤◌, Bool, true, false, ◌⊎◌, ◌↔◌, List, length, slice_index_or, Contains}
use Rattle.vt_rank.specs.declared.graph.Graph.{Graph}
use Rattle.vt_rank.specs.Graphs.{items_of, triggered}
use Rattle.vt_rank.specs.Paths.{IsDistinct}

abbrev pub HaveSameMembers : List ℕ → List ℕ → Type 0
HaveSameMembers xs ys = (n : ℕ) → Contains xs n ↔ Contains ys n

-- the second list has the members of the first, each once
pub record HasEachOnce (nodes found : List ℕ) : Type 0 where
  pub same : HaveSameMembers nodes found
  pub once : IsDistinct found

-- each node triggers the same nodes
abbrev pub HaveSameTriggers : (ℕ → List ℕ) → (ℕ → List ℕ) → Type 0
HaveSameTriggers next other = (n : ℕ) → HaveSameMembers (next n) (other n)

-- each node of the second graph triggers the same nodes as in the first, each once, by one item at most
pub record IsReduced (g small : Graph) : Type 0 where
  pub same : HaveSameTriggers (triggered g) (triggered small)
  pub once : (n : ℕ) → IsDistinct (triggered small n)
  pub items : (n : ℕ) → length (items_of small n) ≤ 1

-- ---- marks

abbrev pub IsMarked : List Bool → ℕ → Type 0
IsMarked marks n = slice_index_or marks n false ≡ true

-- marks after the marking of exactly these nodes
pub record Marks (before after : List Bool) (nodes : List ℕ) : Type 0 where
  pub kept : (n : ℕ) → IsMarked before n → IsMarked after n
  pub there : (n : ℕ) → Contains nodes n → IsMarked after n
  pub only : (n : ℕ) → IsMarked after n → IsMarked before n ⊎ Contains nodes n

-- the list has exactly the marked nodes, each once
pub record AreMarked (marks : List Bool) (nodes : List ℕ) : Type 0 where
  pub are : (n : ℕ) → IsMarked marks n ↔ Contains nodes n
  pub once : IsDistinct nodes
