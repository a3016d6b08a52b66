-- A table of costs, filled rank by rank.
use Rattle.std.specs.Prelude.{◌≡◌, ℕ, ◌<◌, min, List, Option, length, slice_index, Contains, IfSome}
use Rattle.vt_rank.specs.declared.graph.Graph.{Graph}
use Rattle.vt_rank.specs.declared.graph.Item.TheVariants.{Most}
use Rattle.vt_rank.specs.Costs.{cost_of, item_cost}

-- Each node below a rank has its cost in the table, cut at the limit.
pub record IsFilled (g : Graph) (ranks : List ℕ) (limit rank : ℕ) (table : List ℕ) : Type 0 where
  pub size : length table ≡ 256
  pub costs : (n : ℕ) → n < 256 → slice_index ranks n < rank → slice_index table n ≡ min (cost_of g n) limit

-- The nodes of a list have their costs in the table, cut at the limit.
abbrev pub AreSettled : Graph → ℕ → List ℕ → List ℕ → Type 0
AreSettled g limit table nodes = (n : ℕ) → Contains nodes n → min (slice_index table n) limit ≡ min (cost_of g n) limit

-- the cost of Most, cut at the limit, if it is known
abbrev pub IsMost : Graph → ℕ → Option ℕ → Type 0
IsMost g limit most = IfSome most (λ cost. cost ≡ min (item_cost (cost_of g) g Most) limit)
