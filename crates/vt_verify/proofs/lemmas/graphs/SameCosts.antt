-- A macro costs the same in the graph of the triggers and in the pool.
use Rattle.std.proofs.Common.{◌≡◌, ℕ, zero, suc, ◌+◌, ◌<◌, ◌≤◌, max, Bool, true, false, cond, List, [], ◌∷◌, ◌++◌, map, length, Option, Some, None, refl, sym, ap, ap₂, ◌∙◌, arith, inl, inr}
use Rattle.std.proofs.lemmas.List.{append-nil, get_or-map}
use Rattle.std.proofs.lemmas.List.Sums.{sum_by-cons, sum_by-append}
use Rattle.std.proofs.lemmas.Bool.{cases_lt}
use Rattle.std.specs.Prelude.{sum_by, slice_index_or}
use Rattle.std.specs.Option.{option_to_list}
use Rattle.std.specs.List.{flat_map}
use Rattle.vt_commands.specs.declared.command.Command.{Command}
use Rattle.vt_rank.specs.declared.graph.Graph.{Graph}
use Rattle.vt_rank.specs.declared.graph.Item.TheVariants as items
use Rattle.vt_rank.specs.Graphs.{group_of}
use Rattle.vt_rank.specs.Costs as graphs
use Rattle.vt_rank.specs.Costs.{greatest, group_total, item_cost, node_total, group_cost}
use Rattle.vt_verify.specs.declared.listing.Listing.{Listing}
use Rattle.vt_stores.specs.Shapes.{Shape}
use Rattle.vt_verify.specs.Macros.{commands}
use Rattle.vt_verify.specs.Triggers.{listing, row_listings, changes_mask, masks, listed}
use Rattle.vt_verify.specs.Budgets as pools
use Rattle.vt_verify.specs.Budgets.{total, hidden_cost, command_cost, macro_cost, budget}
use Rattle.vt_verify.specs.Rules.{IsWithinBudget}
use Rattle.vt_verify.specs.TriggerGraphs.{IsTriggerGraph, group_of_event, groups_of, command_items}
use Rattle.vt_verify.proofs.lemmas.graphs.SameTriggers.{everywhere, group_listed, groups_listed, groups_at, unnamed, no_items}

-- ---- sums

pub sums_of_sums : {A B : Type 0} (f : B → ℕ) (h : A → List B) (xs : List A) → sum_by f (flat_map h xs) ≡ sum_by (λ x. sum_by f (h x)) xs
sums_of_sums f h [] = refl
sums_of_sums f h (x ∷ xs) =
    sum_by-append f (h x) (flat_map h xs)
    ∙ ap (λ n. sum_by f (h x) + n) (sums_of_sums f h xs)
    ∙ sym (sum_by-cons (λ x. sum_by f (h x)) x xs)

pub same_sums : {A : Type 0} (f h : A → ℕ) (xs : List A) → ((x : A) → f x ≡ h x) → sum_by f xs ≡ sum_by h xs
same_sums f h xs equal = ap (λ f. sum_by f xs) (everywhere equal)

none_added : (n : ℕ) → n ≡ max 0 n
none_added n = omega arith

module _ (cost : ℕ → ℕ) (g : Graph) where
  sum_of_groups : (ks : List ℕ) → sum_by (item_cost cost g) (map items.Group ks) ≡ sum_by (group_total cost g) ks
  sum_of_groups [] = refl
  sum_of_groups (k ∷ ks) =
      sum_by-cons (item_cost cost g) (items.Group k) (map items.Group ks)
      ∙ ap (λ n. group_total cost g k + n) (sum_of_groups ks)
      ∙ sym (sum_by-cons (group_total cost g) k ks)

  sum_of_most : (b : Bool) → sum_by (item_cost cost g) (cond b (items.Most ∷ []) []) ≡ cond b (greatest (group_total cost g) g.most.items) 0
  sum_of_most true = sum_by-cons (item_cost cost g) items.Most [] ∙ omega arith
  sum_of_most false = refl

  greatest_case : (o : Option ℕ) (ks l : List ℕ) → flat_map (group_of g) (option_to_list o) ≡ l
      → greatest (group_total cost g) (option_to_list o ++ ks) ≡ max (sum_by cost l) (greatest (group_total cost g) ks)
  greatest_case None ks l is = none_added (greatest (group_total cost g) ks) ∙ ap (λ l. max (sum_by cost l) (greatest (group_total cost g) ks)) is
  greatest_case (Some k) ks l is =
      ap (λ l. max (sum_by cost l) (greatest (group_total cost g) ks)) (sym (append-nil (group_of g k)) ∙ is)

module _ (shape : Shape) (events : List Listing) (g : Graph) (are : IsTriggerGraph shape events g) (cost : ℕ → ℕ) where
  greatest_is : (qs : List Listing) → greatest (group_total cost g) (groups_of events qs) ≡ greatest (total cost shape) qs
  greatest_is [] = refl
  greatest_is (q ∷ qs) =
      greatest_case cost g (group_of_event events q) (groups_of events qs) (listed shape q) (group_listed shape events g are q)
      ∙ ap (λ n. max (total cost shape q) n) (greatest_is qs)

  sum_is : (qs : List Listing) → sum_by (group_total cost g) (groups_of events qs) ≡ sum_by (total cost shape) qs
  sum_is qs =
      sym (sums_of_sums cost (group_of g) (groups_of events qs))
      ∙ ap (sum_by cost) (groups_listed shape events g are qs)
      ∙ sums_of_sums cost (listed shape) qs

  over_masks : (ms : List ℕ) → greatest (total cost shape) (map (λ mask. listing mask 4) ms) ≡ greatest (λ mask. total cost shape (listing mask 4)) ms
  over_masks [] = refl
  over_masks (m ∷ ms) = ap (λ n. max (total cost shape (listing m 4)) n) (over_masks ms)

  most_is : greatest (group_total cost g) g.most.items ≡ greatest (λ mask. total cost shape (listing mask 4)) (masks shape)
  most_is =
      ap (greatest (group_total cost g)) are.most
      ∙ greatest_is (map (λ mask. listing mask 4) (masks shape)) ∙ over_masks (masks shape)

  command_is : (command : Command) → sum_by (item_cost cost g) (command_items events command) ≡ command_cost cost shape command
  command_is command =
      let most = cond (changes_mask command) (items.Most ∷ []) [] in
      let groups = map items.Group (groups_of events (row_listings command)) in
      sum_by-cons (item_cost cost g) items.Step (most ++ groups)
      ∙ ap (λ n. 1 + n)
      (sum_by-append (item_cost cost g) most groups
      ∙ ap₂ (λ (a b : ℕ). a + b)
      (sum_of_most cost g (changes_mask command) ∙ ap (λ (n : ℕ). cond (changes_mask command) n 0) most_is)
      (sum_of_groups cost g (groups_of events (row_listings command)) ∙ sum_is (row_listings command)))
      ∙ sum_of_three (hidden_cost cost shape command) (sum_by (total cost shape) (row_listings command))
    where
      sum_of_three : (a b : ℕ) → 1 + (a + b) ≡ 1 + a + b
      sum_of_three a b = omega arith

  pub total_is : (n : ℕ) → node_total cost g n ≡ macro_cost cost shape n
  total_is n = elim (cases_lt n 256) [
    | inl lt ↦ ap (sum_by (item_cost cost g)) (are.nodes n lt)
        ∙ sums_of_sums (item_cost cost g) (command_items events) (commands shape n)
        ∙ same_sums (λ (c : Command). sum_by (item_cost cost g) (command_items events c)) (command_cost cost shape) (commands shape n) command_is
    | inr ge ↦ ap (sum_by (item_cost cost g)) (no_items g n ge) ∙ sym (ap (sum_by (command_cost cost shape)) (unnamed shape n ge))
  ]

module _ (shape : Shape) (events : List Listing) (g : Graph) (are : IsTriggerGraph shape events g) where
  -- ---- the costs of macros

  none_yet : (n : ℕ) → graphs.cost_within 0 g n ≡ pools.cost_within 0 shape n
  unfolding graphs.cost_within pools.cost_within
  none_yet n = refl

  one_more : (depth n : ℕ) → graphs.cost_within depth g ≡ pools.cost_within depth shape → graphs.cost_within (suc depth) g n ≡ pools.cost_within (suc depth) shape n
  unfolding graphs.cost_within pools.cost_within
  one_more depth n equal =
      total_is shape events g are (graphs.cost_within depth g) n ∙ ap (λ (cost : ℕ → ℕ). macro_cost cost shape n) equal

  within_are : (depth : ℕ) → graphs.cost_within depth g ≡ pools.cost_within depth shape
  within_are zero = everywhere none_yet
  within_are (suc depth) = everywhere (λ n. one_more depth n (within_are depth))

  -- a macro costs as much as its node
  pub cost_is : (n : ℕ) → graphs.cost_of g n ≡ pools.cost shape n
  unfolding graphs.cost_of pools.cost
  cost_is n = ap (λ (cost : ℕ → ℕ). cost n) (within_are 256)

  pub costs_are : graphs.cost_of g ≡ pools.cost shape
  costs_are = everywhere cost_is

  pub costs_are_totals : graphs.CostsAreTotals g → pools.MacroCostsAreTotals shape
  costs_are_totals totals n =
      sym (cost_is n) ∙ totals n ∙ total_is shape events g are (graphs.cost_of g) n ∙ ap (λ (cost : ℕ → ℕ). macro_cost cost shape n) costs_are

  -- ---- the budgets of events

  budget_is : (id event : ℕ) → budget shape id event ≡ sum_by (graphs.cost_of g) (listed shape (listing id event))
  unfolding budget
  budget_is id event = ap (λ (cost : ℕ → ℕ). sum_by cost (listed shape (listing id event))) (sym costs_are)

  -- a group costs the budget of the event at its index
  pub group_cost_is : (k : ℕ) (raised : Listing) → k < length events → raised ≡ slice_index_or events k raised → group_cost g k ≡ budget shape raised.id raised.event
  group_cost_is k raised lt is =
      ap (sum_by (graphs.cost_of g)) (groups_at shape events g are k ∙ get_or-map (listed shape) events k raised [] lt ∙ ap (listed shape) (sym is))
      ∙ sym (budget_is raised.id raised.event)

  -- the group of any event costs the budget of the event
  pub budget_of : (raised : Listing) (k : ℕ) → group_of_event events raised ≡ Some k → group_cost g k ≡ budget shape raised.id raised.event
  budget_of raised k is =
      ap (sum_by (graphs.cost_of g))
      (sym (append-nil (group_of g k)) ∙ ap (λ (o : Option ℕ). flat_map (group_of g) (option_to_list o)) (sym is) ∙ group_listed shape events g are raised)
      ∙ sym (budget_is raised.id raised.event)

  -- an event without a group has budget 0
  pub no_budget : (raised : Listing) → group_of_event events raised ≡ None → budget shape raised.id raised.event ≡ 0
  no_budget raised is =
      budget_is raised.id raised.event
      ∙ ap (sum_by (graphs.cost_of g))
      (sym (group_listed shape events g are raised) ∙ ap (λ (o : Option ℕ). flat_map (group_of g) (option_to_list o)) is)

  within_case : (raised : Listing) (cap : ℕ) (found : Option ℕ) → group_of_event events raised ≡ found → ((k : ℕ) → found ≡ Some k → group_cost g k ≤ cap)
      → budget shape raised.id raised.event ≤ cap
  within_case raised cap None is each =
      let none = no_budget raised is in
      omega arith
  within_case raised cap (Some k) is each =
      let same = budget_of raised k is in
      let le = each k refl in
      omega arith

  -- if the groups of an event cost at most a cap, so does the event
  pub budget_within : (raised : Listing) (cap : ℕ) → ((k : ℕ) → group_of_event events raised ≡ Some k → group_cost g k ≤ cap) → budget shape raised.id raised.event ≤ cap
  budget_within raised cap each = within_case raised cap (group_of_event events raised) refl each

  pub costs_within : (cap n : ℕ) → graphs.cost_of g n ≤ cap → pools.cost shape n ≤ cap
  costs_within cap n le =
      let same = cost_is n in
      omega arith

  pub is_within : (steps : ℕ) → graphs.IsWithin g steps → IsWithinBudget steps shape
  is_within steps within = record {
    costs = λ id. costs_within steps id (within.nodes id);
    budgets = λ id event. budget_within (listing id event) steps (λ k found. within.groups k);
  }
