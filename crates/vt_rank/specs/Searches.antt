-- The invariant of the depth-first search that ranks the nodes.
use Rattle.std.specs.Prelude.{◌≡◌, ℕ, ◌+◌, ◌<◌, ◌≤◌, ◌⊎◌, List, length, slice_index, Contains}
use Rattle.vt_rank.specs.declared.graph.Graph.{Graph}
use Rattle.vt_rank.specs.declared.search.Search.{Search}
use Rattle.vt_rank.specs.Graphs.{triggered}
use Rattle.vt_rank.specs.Paths.{Triggers, IsPath, IsDistinct}
use Rattle.vt_rank.specs.NodeSets.{IsIn, absent}

-- The path leads from the start of the search to its current node. Every node seen is on the path or has a
-- rank, and the order has each ranked node at its rank.
pub record IsSearch (g : Graph) (s : Search) (path : List ℕ) : Type 0 where
  pub falls : (m n : ℕ) → IsIn s.ranked m → Triggers (triggered g) m n → IsIn s.ranked n × (slice_index s.ranks n < slice_index s.ranks m)
  pub below : (n : ℕ) → IsIn s.ranked n → slice_index s.ranks n < s.count
  pub seen : (n : ℕ) → IsIn s.seen n → IsIn s.ranked n ⊎ Contains path n
  pub on_path : (n : ℕ) → Contains path n → IsIn s.seen n × (IsIn s.ranked n → ⊥)
  pub walk : IsPath (triggered g) path
  pub distinct : IsDistinct path
  pub ordered : (n : ℕ) → IsIn s.ranked n → slice_index s.order (slice_index s.ranks n) ≡ n
  pub size : length s.ranks ≡ 256
  pub places : length s.order ≡ 256
  pub bound : s.count + length path + absent s.seen ≤ 256
