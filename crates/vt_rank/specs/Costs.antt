-- Costs of nodes and groups.
use Rattle.std.specs.Prelude.{◌≡◌, ℕ, zero, suc, ◌<◌, ◌≤◌, ◌^◌, max, min, List, [], ◌∷◌, sum_by, slice_index}
use Rattle.vt_rank.specs.declared.graph.Graph.{Graph}
use Rattle.vt_rank.specs.declared.graph.Item.{Item}
use Rattle.vt_rank.specs.declared.graph.Item.TheVariants.{Step, Group, Most}
use Rattle.vt_rank.specs.declared.budget.OverBudget.{OverBudget}
use Rattle.vt_rank.specs.declared.budget.OverBudget.TheVariants as over
use Rattle.vt_rank.specs.Graphs.{items_of, group_of}

abbrev pub greatest : {X : Type 0} → (X → ℕ) → List X → ℕ
greatest cost [] = 0
greatest cost (x ∷ xs) = max (cost x) (greatest cost xs)

-- the cost of a group, by the costs of nodes
abbrev pub group_total : (ℕ → ℕ) → Graph → ℕ → ℕ
group_total cost g k = sum_by cost (group_of g k)

-- the cost of an item: one for a step, the sum over its nodes for a group (repeats counted), the costliest group for Most
abbrev pub item_cost : (ℕ → ℕ) → Graph → Item → ℕ
item_cost cost g Step = 1
item_cost cost g (Group k) = group_total cost g k
item_cost cost g Most = greatest (group_total cost g) g.most.items

abbrev pub node_total : (ℕ → ℕ) → Graph → ℕ → ℕ
node_total cost g n = sum_by (item_cost cost g) (items_of g n)

-- the cost of a node, with chains of triggers counted up to a number of nodes
unfoldable pub cost_within : ℕ → Graph → ℕ → ℕ
cost_within zero g n = 0
cost_within (suc depth) g n = node_total (cost_within depth g) g n

-- the cost of a node: no chain without a circle has more than 256 nodes
unfoldable pub cost_of : Graph → ℕ → ℕ
cost_of g n = cost_within 256 g n

abbrev pub group_cost : Graph → ℕ → ℕ
group_cost g k = group_total (cost_of g) g k

-- the cost of each node is the sum of its items' costs
abbrev pub CostsAreTotals : Graph → Type 0
CostsAreTotals g = (n : ℕ) → cost_of g n ≡ node_total (cost_of g) g n

-- the costs of a graph's nodes; the cost of each group fits 32 bits
pub record AreCosts (g : Graph) (costs : List ℕ) : Type 0 where
  pub nodes : (n : ℕ) → slice_index costs n ≡ cost_of g n
  pub groups : (k : ℕ) → group_cost g k < 2 ^ 32

-- the costs of a graph's nodes, each cut at a limit
abbrev pub AreCostsUpTo : Graph → ℕ → List ℕ → Type 0
AreCostsUpTo g limit costs = (n : ℕ) → slice_index costs n ≡ min (cost_of g n) limit

pub record IsWithin (g : Graph) (cap : ℕ) : Type 0 where
  pub nodes : (n : ℕ) → cost_of g n ≤ cap
  pub groups : (k : ℕ) → group_cost g k ≤ cap

-- the least node over the cap, or the first group over it if no node is
abbrev pub IsFirstOverCap : Graph → ℕ → OverBudget → Type 0
IsFirstOverCap g cap (over.Node n) = (cap < cost_of g n) × ((m : ℕ) → m < n → cost_of g m ≤ cap)
IsFirstOverCap g cap (over.Group k) = ((n : ℕ) → cost_of g n ≤ cap) × (cap < group_cost g k) × ((j : ℕ) → j < k → group_cost g j ≤ cap)
