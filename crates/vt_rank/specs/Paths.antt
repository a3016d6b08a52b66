-- Paths along triggers, circles, and ranks.
use Rattle.std.specs.Prelude.{ℕ, ◌<◌, ◌≤◌, List, [], ◌∷◌, ◌++◌, slice_index, All, Contains}
use Rattle.vt_rank.specs.declared.graph.Graph.{Graph}
use Rattle.vt_rank.specs.Graphs.{triggered}

-- the nodes are distinct
abbrev pub IsDistinct : List ℕ → Type 0
IsDistinct [] = Unit {0}
IsDistinct (n ∷ ns) = (Contains ns n → ⊥) × IsDistinct ns

-- ---- over the nodes triggered by each node

abbrev pub Triggers : (ℕ → List ℕ) → ℕ → ℕ → Type 0
Triggers next m n = Contains (next m) n

-- each node triggers the next
abbrev pub IsPath : (ℕ → List ℕ) → List ℕ → Type 0
IsPath next [] = Unit {0}
IsPath next (m ∷ []) = Unit {0}
IsPath next (m ∷ n ∷ ns) = Triggers next m n × IsPath next (n ∷ ns)

-- each node triggers the next, and the last one the first
abbrev pub IsCircle : (ℕ → List ℕ) → List ℕ → Type 0
IsCircle next [] = ⊥
IsCircle next (n ∷ ns) = IsPath next ((n ∷ ns) ++ n ∷ [])

abbrev pub HasNoCircle : (ℕ → List ℕ) → Type 0
HasNoCircle next = (path : List ℕ) → IsCircle next path → ⊥

-- no node on any circle is less
abbrev pub IsLeastOnCircles : (ℕ → List ℕ) → ℕ → Type 0
IsLeastOnCircles next n = (path : List ℕ) → IsCircle next path → All (λ m. n ≤ m) path

-- ---- in a graph

-- each node ranks below the nodes that trigger it
abbrev pub RanksFall : Graph → List ℕ → Type 0
RanksFall g ranks = (m n : ℕ) → Triggers (triggered g) m n → slice_index ranks n < slice_index ranks m

pub record AreRanks (g : Graph) (ranks : List ℕ) : Type 0 where
  pub falls : RanksFall g ranks
  pub small : (n : ℕ) → slice_index ranks n < 256

-- the node begins a circle
abbrev pub IsOnCircle : Graph → ℕ → Type 0
IsOnCircle g n = (rest : List ℕ) × IsCircle (triggered g) (n ∷ rest)
