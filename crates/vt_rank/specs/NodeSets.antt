-- Sets of nodes, and reachability between nodes.
use Rattle.std.specs.Prelude.{◌≡◌, ℕ, zero, suc, ◌+◌, ◌-◌, ◌/◌, ◌%◌, ◌⊎◌, ◌↔◌, List, [], ◌∷◌, ◌++◌, slice_index, slice_index_or, Contains}
use Rattle.std.specs.Int.{bit_at}
use Rattle.vt_rank.specs.declared.graph.Graph.{Graph}
use Rattle.vt_rank.specs.declared.node_set.NodeSet.{NodeSet}
use Rattle.vt_rank.specs.Graphs.{triggered}
use Rattle.vt_rank.specs.Paths.{IsPath}

-- node n is bit n % 64 of word n / 64
abbrev pub bit_of : NodeSet → ℕ → ℕ
bit_of set n = bit_at (slice_index set.words (n / 64)) (n % 64)

abbrev pub IsIn : NodeSet → ℕ → Type 0
IsIn set n = bit_of set n ≡ 1

-- a set after the insertion of exactly these nodes
pub record Adds (before after : NodeSet) (nodes : List ℕ) : Type 0 where
  pub kept : (n : ℕ) → IsIn before n → IsIn after n
  pub there : (n : ℕ) → Contains nodes n → IsIn after n
  pub only : (n : ℕ) → IsIn after n → IsIn before n ⊎ Contains nodes n

-- the number of nodes below n that are not in the set
abbrev pub absent_below : NodeSet → ℕ → ℕ
absent_below set zero = 0
absent_below set (suc n) = (1 - bit_of set n) + absent_below set n

-- the number of the 256 nodes that are not in the set
unfoldable pub absent : NodeSet → ℕ
absent set = absent_below set 256

-- the set has exactly the nodes of the list
abbrev pub IsSetOf : NodeSet → List ℕ → Type 0
IsSetOf set nodes = (n : ℕ) → IsIn set n ↔ Contains nodes n

-- a set after the insertion of another set, if the set contains `via`
pub record IsJoined (before after beyond : NodeSet) (via : ℕ) : Type 0 where
  pub kept : (n : ℕ) → IsIn before n → IsIn after n
  pub joined : (n : ℕ) → IsIn before via → IsIn beyond n → IsIn after n
  pub only : (n : ℕ) → IsIn after n → IsIn before n ⊎ (IsIn before via × IsIn beyond n)

abbrev pub row : List NodeSet → ℕ → NodeSet
row rows m = slice_index_or rows m (record { words = [] })

abbrev pub Reaches : List NodeSet → ℕ → ℕ → Type 0
Reaches rows m n = IsIn (row rows m) n

-- each row has exactly the nodes triggered by its node
abbrev pub AreTargets : Graph → List NodeSet → Type 0
AreTargets g rows = (m : ℕ) → IsSetOf (row rows m) (triggered g m)

-- a path of at least one trigger
abbrev pub Leads : Graph → ℕ → ℕ → Type 0
Leads g m n = (between : List ℕ) × IsPath (triggered g) (m ∷ between ++ n ∷ [])

-- a node is one of some nodes, or they lead to it
abbrev pub IsReached : Graph → List ℕ → ℕ → Type 0
IsReached g start n = Contains start n ⊎ ((m : ℕ) × Contains start m × Leads g m n)
