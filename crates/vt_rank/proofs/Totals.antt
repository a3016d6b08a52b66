-- Totals agree up to a limit if their cost functions agree up to it.
use Rattle.std.proofs.Common.{◌≡◌, ℕ, zero, suc, ◌+◌, ◌<◌, inl, inr, min, max, List, [], ◌∷◌, refl, sym, ap, subst, arith, slice_index}
use Rattle.std.specs.List.{Contains, flat_map, sum_by}
use Rattle.std.proofs.lemmas.List.Sums.{sum_by-cons}
use Rattle.std.proofs.lemmas.List.Elements.{Contains-append_left, Contains-append_right}
use Rattle.vt_rank.specs.declared.graph.Graph.{Graph}
use Rattle.vt_rank.specs.declared.graph.Item.{Item}
use Rattle.vt_rank.specs.declared.graph.Item.TheVariants.{Step, Group, Most}
use Rattle.vt_rank.specs.Graphs.{items_of, group_of, nodes_of, triggered}
use Rattle.vt_rank.specs.Paths.{Triggers, AreRanks}
use Rattle.vt_rank.specs.Costs.{greatest, group_total, item_cost, node_total, cost_within, cost_of, CostsAreTotals}
use Rattle.vt_rank.proofs.Members.{Contains-nil, Contains-head, Contains-tail, Contains-cons_cases}

pub Contains-flat_map : {X : Type 0} (f : X → List ℕ) (xs : List X) (x : X) (n : ℕ) → Contains xs x → Contains (f x) n → Contains (flat_map f xs) n
Contains-flat_map f [] x n among inside = absurd (Contains-nil x among)
Contains-flat_map {X} f (y ∷ xs) x n among inside =
    elim (Contains-cons_cases y x xs among) as (λ _. Contains (flat_map f (y ∷ xs)) n) [
      | inl same ↦ Contains-append_left (f y) (flat_map f xs) n (subst (λ (z : X). Contains (f z) n) (sym same) inside)
      | inr later ↦ Contains-append_right (f y) (flat_map f xs) n (Contains-flat_map f xs x n later inside)
    ]

-- ---- up to a limit

sums_meet : (a b s t l : ℕ) → min a l ≡ min b l → min s l ≡ min t l → min (a + s) l ≡ min (b + t) l
sums_meet a b s t l here rest = omega arith

greatest_meet : (a b s t l : ℕ) → min a l ≡ min b l → min s l ≡ min t l → min (max a s) l ≡ min (max b t) l
greatest_meet a b s t l here rest = omega arith

pub sum_by-meets : {X : Type 0} (f h : X → ℕ) (l : ℕ) (xs : List X) → ((x : X) → Contains xs x → min (f x) l ≡ min (h x) l) → min (sum_by f xs) l ≡ min (sum_by h xs) l
sum_by-meets f h l [] meet = refl
sum_by-meets f h l (x ∷ xs) meet =
    rw (sum_by-cons f x xs, sum_by-cons h x xs) (sums_meet (f x) (h x) (sum_by f xs) (sum_by h xs) l (meet x (Contains-head x xs)) (sum_by-meets f h l xs (λ y inside. meet y (Contains-tail x y xs inside))))

pub greatest-meets : {X : Type 0} (f h : X → ℕ) (l : ℕ) (xs : List X) → ((x : X) → Contains xs x → min (f x) l ≡ min (h x) l) → min (greatest f xs) l ≡ min (greatest h xs) l
greatest-meets f h l [] meet = refl
greatest-meets f h l (x ∷ xs) meet =
    greatest_meet (f x) (h x) (greatest f xs) (greatest h xs) l (meet x (Contains-head x xs)) (greatest-meets f h l xs (λ y inside. meet y (Contains-tail x y xs inside)))

pub item_cost-meets : (g : Graph) (f h : ℕ → ℕ) (l : ℕ) (item : Item) → ((n : ℕ) → Contains (nodes_of g item) n → min (f n) l ≡ min (h n) l) → min (item_cost f g item) l ≡ min (item_cost h g item) l
item_cost-meets g f h l Step meet = refl
item_cost-meets g f h l (Group k) meet = sum_by-meets f h l (group_of g k) meet
item_cost-meets g f h l Most meet =
    greatest-meets (group_total f g) (group_total h g) l g.most.items (λ k among. sum_by-meets f h l (group_of g k) (λ n inside. meet n (Contains-flat_map (group_of g) g.most.items k n among inside)))

pub node_total-meets : (g : Graph) (f h : ℕ → ℕ) (l n : ℕ) → ((t : ℕ) → Triggers (triggered g) n t → min (f t) l ≡ min (h t) l) → min (node_total f g n) l ≡ min (node_total h g n) l
node_total-meets g f h l n meet =
    sum_by-meets (item_cost f g) (item_cost h g) l (items_of g n) (λ item among. item_cost-meets g f h l item (λ t inside. meet t (Contains-flat_map (nodes_of g) (items_of g n) item t among inside)))

-- ---- without a limit

both : (a b : ℕ) → min a (a + b) ≡ min b (a + b) → a ≡ b
both a b meet = omega arith

pub sum_by-same : {X : Type 0} (f h : X → ℕ) (xs : List X) → ((x : X) → Contains xs x → f x ≡ h x) → sum_by f xs ≡ sum_by h xs
sum_by-same f h xs same =
    let l = sum_by f xs + sum_by h xs in
    both (sum_by f xs) (sum_by h xs) (sum_by-meets f h l xs (λ x inside. ap (λ (k : ℕ). min k l) (same x inside)))

node_total-same : (g : Graph) (f h : ℕ → ℕ) (n : ℕ) → ((t : ℕ) → Triggers (triggered g) n t → f t ≡ h t) → node_total f g n ≡ node_total h g n
node_total-same g f h n same =
    let l = node_total f g n + node_total h g n in
    both (node_total f g n) (node_total h g n) (node_total-meets g f h l n (λ t inside. ap (λ (k : ℕ). min k l) (same t inside)))

-- the cost of a node is the same for all depths above its rank
settled : (g : Graph) (ranks : List ℕ) → AreRanks g ranks → (d e n : ℕ) → slice_index ranks n < d → slice_index ranks n < e → cost_within d g n ≡ cost_within e g n
unfolding cost_within
settled g ranks are zero e n below also = absurd (omega (arith, below))
settled g ranks are (suc d) zero n below also = absurd (omega (arith, also))
settled g ranks are (suc d) (suc e) n below also =
    node_total-same g (cost_within d g) (cost_within e g) n (λ t inside. settled g ranks are d e t (omega (arith, are.falls n t inside, below)) (omega (arith, are.falls n t inside, also)))

one_deeper : (g : Graph) (ranks : List ℕ) → AreRanks g ranks → (d n : ℕ) → slice_index ranks n < d → cost_within d g n ≡ node_total (cost_within d g) g n
unfolding cost_within
one_deeper g ranks are d n below = settled g ranks are d (suc d) n below (omega (arith, below))

pub costs_are_totals : (g : Graph) (ranks : List ℕ) → AreRanks g ranks → CostsAreTotals g
unfolding cost_of
costs_are_totals g ranks are n = one_deeper g ranks are 256 n (are.small n)
