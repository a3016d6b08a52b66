-- Filling of a table of costs, and the costs in the full table.
use Rattle.std.proofs.Common.{◌≡◌, ◌≢◌, ℕ, ◌+◌, ◌^◌, ◌<◌, ◌≤◌, inl, inr, min, List, length, get_or, set, drop, sym, ◌∙◌, ap, subst, arith, slice_index, get_or-set_same, get_or-set_other}
use Rattle.std.specs.List.{sum_by}
use Rattle.std.proofs.lemmas.Bool.{cases_lt}
use Rattle.std.proofs.lemmas.List.{at_drop_more, get_or_past, length-set}
use Rattle.std.proofs.lemmas.List.Sums.{sum_by-cons}
use Rattle.vt_rank.specs.declared.graph.Graph.{Graph}
use Rattle.vt_rank.specs.Graphs.{group_of, triggered}
use Rattle.vt_rank.specs.Paths.{AreRanks}
use Rattle.vt_rank.specs.Costs.{group_total, group_cost, item_cost, node_total, cost_of, AreCosts, IsWithin}
use Rattle.vt_rank.specs.Tables.{IsFilled, AreSettled}
use Rattle.vt_rank.proofs.Entries.{get_or-lists_past}
use Rattle.vt_rank.proofs.RankSearch.{items_past}
use Rattle.vt_rank.proofs.Totals.{sum_by-same, costs_are_totals}

-- ---- a loop that sums, cut at a limit

pub sum_by-left : {X : Type 0} (f : X → ℕ) (xs : List X) (i : ℕ) (d : X) → i < length xs → sum_by f (drop i xs) ≡ f (get_or xs i d) + sum_by f (drop (i + 1) xs)
sum_by-left f xs i d inside = at_drop_more (sum_by f) xs i d inside ∙ sum_by-cons f (get_or xs i d) (drop (i + 1) xs)

-- ---- the node of a rank

pub cost_past : (g : Graph) (ranks : List ℕ) → AreRanks g ranks → (n : ℕ) → 256 ≤ n → cost_of g n ≡ 0
cost_past g ranks are n past = costs_are_totals g ranks are n ∙ ap (sum_by (item_cost (cost_of g) g)) (items_past g n past)

cut_twice : (a c l : ℕ) → a ≡ min c l → min a l ≡ min c l
cut_twice a c l is = omega arith

pub settled_here : (g : Graph) (ranks : List ℕ) (limit rank : ℕ) (table : List ℕ) → AreRanks g ranks → IsFilled g ranks limit rank table → (n : ℕ) → slice_index ranks n ≡ rank → AreSettled g limit table (triggered g n)
settled_here g ranks limit rank table are f n of_rank t inside =
    let less : slice_index ranks t < rank = omega (arith, are.falls n t inside, of_rank) in
    elim (cases_lt t 256) as (λ _. min (slice_index table t) limit ≡ min (cost_of g t) limit) [
      | inl within ↦ cut_twice (slice_index table t) (cost_of g t) limit (f.costs t within less)
      | inr past ↦ let none : slice_index table t ≡ 0 = get_or_past table t 0 (omega (arith, f.size)) in ap (λ (k : ℕ). min k limit) (none ∙ sym (cost_past g ranks are t past))
    ]

-- the table after the cost of the only node of a rank
pub filled_here : (g : Graph) (ranks : List ℕ) (limit rank node i cost : ℕ) (table : List ℕ) → AreRanks g ranks → IsFilled g ranks limit rank table → ((n : ℕ) → n < 256 → slice_index ranks n ≡ rank → node ≡ n) → slice_index ranks node ≡ rank → node < 256 → i ≡ node → cost ≡ min (node_total (cost_of g) g node) limit → IsFilled g ranks limit (rank + 1) (set table i cost)
filled_here g ranks limit rank node i cost table are f only of_rank small at is =
    let inside : node < length table = omega (arith, f.size) in
    let value : cost ≡ min (cost_of g node) limit = is ∙ ap (λ (k : ℕ). min k limit) (sym (costs_are_totals g ranks are node)) in
    subst (λ (k : ℕ). IsFilled g ranks limit (rank + 1) (set table k cost)) (sym at) (record {
      size = length-set table node cost ∙ f.size;
      costs = λ n within below.
          elim (cases_lt (slice_index ranks n) rank) as (λ _. slice_index (set table node cost) n ≡ min (cost_of g n) limit) [
            | inl less ↦
                let other : n ≢ node = λ same. (let here : slice_index ranks n ≡ slice_index ranks node = ap (slice_index ranks) same in omega (arith, less, of_rank, here)) in
                get_or-set_other table node n cost 0 other ∙ f.costs n within less
            | inr at_least ↦
                subst (λ (k : ℕ). slice_index (set table node cost) k ≡ min (cost_of g k) limit) (only n within (omega (arith, below, at_least)))
                (get_or-set_same table node cost 0 inside ∙ value)
          ];
    })

-- a rank without a node
pub passed_here : (g : Graph) (ranks : List ℕ) (limit rank node : ℕ) (table : List ℕ) → IsFilled g ranks limit rank table → ((n : ℕ) → n < 256 → slice_index ranks n ≡ rank → node ≡ n) → (slice_index ranks node ≡ rank → ⊥) → IsFilled g ranks limit (rank + 1) table
passed_here g ranks limit rank node table f only differs = record {
  size = f.size;
  costs = λ n within below.
      elim (cases_lt (slice_index ranks n) rank) as (λ _. slice_index table n ≡ min (cost_of g n) limit) [
        | inl less ↦ f.costs n within less
        | inr at_least ↦
            let here : slice_index ranks n ≡ rank = omega (arith, below, at_least) in
            absurd (differs (subst (λ (k : ℕ). slice_index ranks k ≡ rank) (sym (only n within here)) here))
      ];
}

-- ---- the full table

pub record IsFull (g : Graph) (cap : ℕ) (table : List ℕ) : Type 0 where
  pub size : length table ≡ 256
  pub costs : (n : ℕ) → slice_index table n ≡ min (cost_of g n) (cap + 1)

pub full : (g : Graph) (ranks : List ℕ) (cap rank : ℕ) (table : List ℕ) → AreRanks g ranks → IsFilled g ranks (cap + 1) rank table → 256 ≤ rank → IsFull g cap table
full g ranks cap rank table are f all = record {
  size = f.size;
  costs = λ n.
      elim (cases_lt n 256) as (λ _. slice_index table n ≡ min (cost_of g n) (cap + 1)) [
        | inl within ↦ f.costs n within (omega (arith, are.small n, all))
        | inr past ↦ omega (arith, get_or_past table n 0 (omega (arith, f.size)), cost_past g ranks are n past)
      ];
}

pub node_within : (g : Graph) (cap : ℕ) (table : List ℕ) (n : ℕ) → IsFull g cap table → slice_index table n ≤ cap → cost_of g n ≤ cap
node_within g cap table n f within = omega (arith, within, f.costs n)

pub all_within : (g : Graph) (cap : ℕ) (table : List ℕ) → IsFull g cap table → ((n : ℕ) → n < 256 → slice_index table n ≤ cap) → (n : ℕ) → cost_of g n ≤ cap
all_within g cap table f within n =
    elim (cases_lt n 256) as (λ _. cost_of g n ≤ cap) [
      | inl inside ↦ node_within g cap table n f (within n inside)
      | inr past ↦ let none : slice_index table n ≡ 0 = get_or_past table n 0 (omega (arith, f.size)) in omega (arith, none, f.costs n)
    ]

pub group_same : (g : Graph) (cap : ℕ) (table : List ℕ) → IsFull g cap table → ((n : ℕ) → n < 256 → slice_index table n ≤ cap) → (k : ℕ) → group_total (slice_index table) g k ≡ group_cost g k
group_same g cap table f within k =
    sum_by-same (slice_index table) (cost_of g) (group_of g k) (λ n _. let below = all_within g cap table f within n in omega (arith, below, f.costs n))

pub costs_are : (g : Graph) (cap : ℕ) (table costs : List ℕ) → IsFull g cap table → ((n : ℕ) → n < 256 → slice_index table n ≤ cap) → ((n : ℕ) → n < 256 → slice_index costs n ≡ slice_index table n) → length costs ≡ 256 → ((k : ℕ) → group_total (slice_index table) g k ≤ cap) → cap < 2 ^ 32 → AreCosts g costs
costs_are g cap table costs f within copies size groups small = record {
  nodes = λ n.
      let below = all_within g cap table f within n in
      elim (cases_lt n 256) as (λ _. slice_index costs n ≡ cost_of g n) [
        | inl inside ↦ omega (arith, copies n inside, f.costs n, below)
        | inr past ↦
            let none : slice_index table n ≡ 0 = get_or_past table n 0 (omega (arith, f.size)) in
            omega (arith, get_or_past costs n 0 (omega (arith, size)), none, f.costs n)
      ];
  groups = λ k. omega (arith, group_same g cap table f within k, groups k, small);
}

-- a missing group costs nothing
pub group_past : (f : ℕ → ℕ) (g : Graph) (k : ℕ) → length g.groups.items ≤ k → group_total f g k ≡ 0
unfolding group_of
group_past f g k past = ap (sum_by f) (get_or-lists_past g.groups k past)

pub within_cap : (g : Graph) (cap : ℕ) (table : List ℕ) → IsFull g cap table → ((n : ℕ) → n < 256 → slice_index table n ≤ cap) → ((k : ℕ) → group_total (slice_index table) g k ≤ cap) → IsWithin g cap
within_cap g cap table f within groups = record {
  nodes = all_within g cap table f within;
  groups = λ k. omega (arith, group_same g cap table f within k, groups k);
}

pub first_group : (g : Graph) (cap : ℕ) (table : List ℕ) (k : ℕ) → IsFull g cap table → ((n : ℕ) → n < 256 → slice_index table n ≤ cap) → cap < group_total (slice_index table) g k → ((j : ℕ) → j < k → group_total (slice_index table) g j ≤ cap)
    → ((n : ℕ) → cost_of g n ≤ cap) × (cap < group_cost g k) × ((j : ℕ) → j < k → group_cost g j ≤ cap)
first_group g cap table k f within over first =
    (all_within g cap table f within, omega (arith, group_same g cap table f within k, over), λ j less. omega (arith, group_same g cap table f within j, first j less))
